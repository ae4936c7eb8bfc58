-- Lists by index.
pub mod ByIndex
pub mod TabulatedEntries
pub mod PairedLists
pub mod IndexCalls
pub mod ListItems
pub mod WrittenItems
pub mod ListOrder

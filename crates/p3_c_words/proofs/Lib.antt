pub mod InvertedWords
mod LaneProducts
pub mod ListProducts
pub mod PairedWords
mod Refusals
mod StoredProducts
mod StoredSums
mod WrittenWords
mod BlockTotals
mod PowerBlocks

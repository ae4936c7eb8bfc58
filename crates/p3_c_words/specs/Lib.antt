pub mod Calls
pub mod Fields
pub mod Statuses
pub mod Words
pub mod ListCalls

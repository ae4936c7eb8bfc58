pub mod Streams
pub mod StreamLemmas
pub mod TakenItems
pub mod DrawnItems

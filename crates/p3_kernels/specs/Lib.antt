pub mod Pairs
pub mod ProductSums
pub mod Residues
pub mod Words

pub mod Residues
pub mod Held
pub mod Pairs

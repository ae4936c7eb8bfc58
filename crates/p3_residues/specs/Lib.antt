pub mod Forms
pub mod ResidueMultiples
pub mod Inverses
pub mod Halves
pub mod Montgomery

-- Residues of integers, their sums, products and roots of unity.
pub mod SumsOfProducts
pub mod Modular
pub mod Residues
pub mod RootsOfUnity
pub mod BitLength
pub mod ResidueGenerators
pub mod Reciprocals

pub mod Columns
pub mod PackedResidues
pub mod Sizes
pub mod Values

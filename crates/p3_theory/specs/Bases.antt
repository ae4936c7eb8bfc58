-- Coordinates over a basis, and subfields.
pub mod Coordinates
pub mod CoordinateLemmas
pub mod BasisSums
pub mod Subfields

pub mod Entries
pub mod FixedFormulas
pub mod TrinomialRemainders
pub mod Trinomials

pub mod Digits
pub mod WordLemmas
pub mod Pieces

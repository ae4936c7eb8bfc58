-- Frobenius maps, their tables, orbits and norms.
pub mod Frobenius
pub mod Norm
pub mod BinomialFrobenius
pub mod FrobeniusTable
pub mod FrobeniusTableLaws
pub mod FrobeniusNorm
pub mod FrobeniusTransfer
pub mod Iteration
pub mod TableImages
pub mod TableEntries
pub mod OrbitLists
pub mod OrbitProducts
pub mod ScaledPowers

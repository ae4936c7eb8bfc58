-- Inverses of remainders: by the norm, by towers and by halves.
pub mod CubicNorm
pub mod EvenOdd
pub mod QuadraticTower
pub mod ListInverses
pub mod QuadraticNorm
pub mod CubicInverse
pub mod InversesByHalves
pub mod Interleaving
pub mod QuadraticDomains

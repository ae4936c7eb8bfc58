-- Square roots, orders, two-adic generators and cosets.
pub mod ValueLists
pub mod Fermat
pub mod Monomials
pub mod TwoAdic
pub mod SquareRoots
pub mod PowersOfTwo
pub mod RootRounds
pub mod CountedRoots
pub mod Cosets
pub mod TwoAdicCoefficients
pub mod FiniteFields

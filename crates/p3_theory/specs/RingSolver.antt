-- Identities of commutative rings decided by normal forms of polynomials.
pub mod Solver
pub mod SolverSound
pub mod Formula
pub mod Reify
pub mod StraightLine

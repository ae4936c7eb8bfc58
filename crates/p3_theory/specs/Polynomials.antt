-- Polynomials as coefficient lists, remainders, and the ring of remainders modulo a monic one.
pub mod Polynomial
pub mod Sequences
pub mod Coefficients
pub mod Congruence
pub mod Remainders
pub mod QuotientRing
pub mod Horner
pub mod Substitution
pub mod ConvolutionSums
pub mod Text
pub mod TextSteps
pub mod HornerFold
pub mod BlockValues
pub mod BaseProduct
pub mod ScalarSums
pub mod IntegerPolynomials

-- Products and squares of remainders, by shape and degree.
pub mod BinomialProduct
pub mod ProductCoefficients
pub mod CoefficientProducts
pub mod ZeroedProducts
pub mod ComplexExtensions

pub use Rattle.p3_packed_prime_fields.specs.Columns
pub use Rattle.p3_packed_prime_fields.specs.PackedResidues
pub use Rattle.p3_packed_prime_fields.specs.Sizes
pub use Rattle.p3_packed_prime_fields.specs.Values
pub use Rattle.p3_prime_fields.specs.ComplexNumbers
pub use Rattle.p3_prime_fields.specs.ComplexTower
pub use Rattle.p3_prime_fields.specs.Elements
pub use Rattle.p3_prime_fields.specs.MontgomeryForms

use Rattle.std.specs.Prelude.{[], ◌∷◌}
use Rattle.p3_prime_fields.specs.Elements.{of}
use Rattle.p3_prime_fields.specs.ComplexNumbers.{is_complex_of}
use Rattle.p3_prime_fields.proofs.extensions.complex.Goals as goal

pub returns : goal.returns
returns c =
    is_complex_of (of _) (c.args.real ∷ c.args.imag ∷ []) c.new_complex.result c.new-real_part.result c.new-imaginary_part.result c.new_complex.ensures
    c.new-real_part.ensures.value c.new-imaginary_part.ensures.value

use Rattle.std.specs.Prelude.{[], ◌∷◌}
use Rattle.std.proofs.Common.{ap₂, ◌∙◌}
use Rattle.p3_field.specs.Values.{same_value}
use Rattle.example_mersenne31.proofs.complex.Mersenne31ComplexExtendable.circle_two_adic_generator.Goals as goal

pub returns : goal.returns
returns c = same_value _ _ (c.new_complex.ensures ∙ ap₂ (λ u v. u ∷ v ∷ []) c.generator_coefficient-real.ensures c.generator_coefficient-imag.ensures)

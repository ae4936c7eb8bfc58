use Rattle.std.specs.Prelude.{refl}
use Rattle.p3_field.specs.Halves.{two_has_inverse}
use Rattle.example_mersenne31.specs.Elements.{of, is, same_word}
use Rattle.example_mersenne31.proofs.worked_values.halves_and_inverses.Goals as goal

pub halve-half-requires : goal.halve-half-requires
halve-half-requires g c = two_has_inverse is refl

pub halve-more-requires : goal.halve-more-requires
halve-more-requires g c = two_has_inverse is refl

pub div-requires : goal.div-requires
div-requires g c = (of 32768, rw c.new-root.ensures (same_word _ _ refl))

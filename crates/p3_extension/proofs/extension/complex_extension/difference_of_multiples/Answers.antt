use Rattle.std.proofs.Common.{ap₂, ◌∙◌}
use Rattle.p3_theory.specs.Rings.Ring.{subtract}
use Rattle.p3_extension.proofs.extension.complex_extension.difference_of_multiples.Goals as goal

pub returns : goal.returns
returns g c =
    let times = g.met.E.Algebra.mixed_muls in
    g.met.E.PrimeCharacteristicRing.subs.exact _ _ _ c.sub.ensures
    ∙ ap₂ (subtract g.E.PrimeCharacteristicRing.ops) (times.exact _ _ _ c.mul.ensures) (times.exact _ _ _ c.mul-2.ensures)

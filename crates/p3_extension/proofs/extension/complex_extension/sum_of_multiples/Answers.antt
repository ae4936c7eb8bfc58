use Rattle.std.proofs.Common.{ap₂, ◌∙◌}
use Rattle.p3_extension.proofs.extension.complex_extension.sum_of_multiples.Goals as goal

pub returns : goal.returns
returns g c =
    let times = g.met.E.Algebra.mixed_muls in
    g.met.E.PrimeCharacteristicRing.adds.exact _ _ _ c.add.ensures
    ∙ ap₂ g.E.PrimeCharacteristicRing.ops.add (times.exact _ _ _ c.mul.ensures) (times.exact _ _ _ c.mul-2.ensures)

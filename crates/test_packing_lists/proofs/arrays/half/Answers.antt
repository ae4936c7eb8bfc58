use Rattle.std.proofs.Common.{rules}
use Rattle.p3_theory.specs.Rings.Ring.{Invertible}
use Rattle.p3_theory.specs.Rings.Homomorphism.{unit-two}
use Rattle.test_packing_lists.proofs.arrays.half.Goals as goal

pub halve-half-requires : goal.halve-half-requires
halve-half-requires g c =
    let unit : Invertible g.F.PrimeCharacteristicRing.ops c.two-two.result = search rules in
    unit-two g.met.A.Algebra.embeds c.two-two.result c.two-two.ensures unit

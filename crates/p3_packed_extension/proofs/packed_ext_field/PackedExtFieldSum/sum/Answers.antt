use Rattle.std.proofs.Common.{map}
use Rattle.p3_theory.specs.Rings.Ring.{ring_of}
use Rattle.p3_theory.specs.Rings.Accumulation.{sum_from_zero}
use Rattle.p3_packed_extension.specs.PackedValues.{packed_laws, packed_sum, packed_zero}
use Rattle.p3_packed_extension.proofs.packed_ext_field.PackedExtFieldSum.sum.Goals as goal

pub returns : goal.returns
returns g c =
    let o = g.P.PrimeCharacteristicRing.ops in
    let m = g.met.F.ExtensionAlgebra in
    let f = map g.P.Algebra.embed g.F.ExtensionAlgebra.modulus in
    let ran = c.sum_from.ensures.ran in
    record {
      ran = (
        ran.0,
        λ _. ran.1,
        sum_from_zero (packed_laws (ring_of g.met.P.PrimeCharacteristicRing.ring) g.met.P.Algebra.embeds m.at_least_two g.F.ExtensionAlgebra.modulus m.monic) _
            (packed_sum o f _ g.met.P.PrimeCharacteristicRing.adds.exact) _ (packed_zero o f c.new-start.result c.zero.result c.zero.ensures c.new-start.ensures)
            ran.0 c.sum_from.result ran.2,
      );
    }

use Rattle.std.proofs.Common.{◌∙◌}
use Rattle.p3_theory.specs.Rings.Ring.{ring_of}
use Rattle.p3_theory.specs.Rings.Accumulation.{sum_from_zero}
use Rattle.p3_theory.specs.Lists.ByIndex.{zero-list}
use Rattle.p3_extension.specs.Values.{ext_laws, is_sum, same_value, constant}
use Rattle.p3_extension.proofs.extension.ext_field.ExtFieldSum.sum.Goals as goal

pub returns : goal.returns
returns g c =
    let o = g.A.PrimeCharacteristicRing.ops in
    let m = g.met.A.ExtensionAlgebra in
    let f = g.A.ExtensionAlgebra.modulus in
    let ran = c.sum_from.ensures.ran in
    record {
      ran = (
        ran.0,
        λ _. ran.1,
        sum_from_zero (ext_laws (ring_of g.met.A.PrimeCharacteristicRing.ring) g.row.D m.at_least_two f m.monic) _
            (λ x y r h. is_sum o f g.A.Add.add_gives g.met.A.PrimeCharacteristicRing.adds.exact x y r h) _
            (same_value c.new-start.result (constant o o.zero) (c.new-start.ensures ∙ zero-list o g.row.D c.zero.result c.zero.ensures)) ran.0 c.sum_from.result ran.2,
      );
    }

use Rattle.std.proofs.Common.{◌∙◌, ap, map, rules}
use Rattle.p3_theory.specs.Rings.Ring.{ring_of}
use Rattle.p3_theory.specs.Rings.Accumulation.{sum_from_zero}
use Rattle.p3_extension.specs.Values.{ext_laws, is_sum}
use Rattle.p3_packed_extension.specs.PackedValues.{spread, same_packed}
use Rattle.p3_packed_extension.specs.Sizes.{scalars_fit}
use Rattle.p3_packed_extension.proofs.extension_values.PackedExtFieldSumExtField.sum.Goals as goal

pub zero-start-requires : goal.zero-start-requires
zero-start-requires g c = scalars_fit g.row.F g.row.S g.row.P g.row.D g.met.P.HoldsScalar.holds (search rules)

pub sum_from-total-requires-room-R-Clone : goal.sum_from-total-requires-room-R-Clone
sum_from-total-requires-room-R-Clone g c κs within = scalars_fit g.row.F g.row.S g.row.P g.row.D g.met.P.HoldsScalar.holds (search rules)

pub sum_from-total-requires-room-R-Add : goal.sum_from-total-requires-room-R-Add
sum_from-total-requires-room-R-Add g c κs within = scalars_fit g.row.F g.row.S g.row.P g.row.D g.met.P.HoldsScalar.holds (search rules)

pub from-requires : goal.from-requires
from-requires g c = search (rules, scalars_fit g.row.F g.row.S g.row.P g.row.D g.met.P.HoldsScalar.holds (search rules))

pub returns : goal.returns
returns g c =
    let o = g.F.PrimeCharacteristicRing.ops in
    let m = g.met.F.ExtensionAlgebra in
    let f = g.F.ExtensionAlgebra.modulus in
    let e = g.P.Algebra.embed in
    let total = c.sum_from-total.result in
    let ran = c.sum_from-total.ensures.ran in
    record {
      ran = (
        ran.0,
        λ _. ran.1,
        same_packed g.P.PrimeCharacteristicRing.ops (map e f) c.from.result (spread e total) c.from.ensures
            ∙ ap (spread e)
            (sum_from_zero (ext_laws (ring_of g.met.F.PrimeCharacteristicRing.ring) g.row.D m.at_least_two f m.monic) _
            (λ x y r h. is_sum o f g.F.Add.add_gives g.met.F.PrimeCharacteristicRing.adds.exact x y r h) c.zero-start.result c.zero-start.ensures ran.0 total ran.2),
      );
    }

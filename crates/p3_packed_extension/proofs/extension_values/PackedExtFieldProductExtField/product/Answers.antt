use Rattle.std.proofs.Common.{◌∙◌, ap, map, rules}
use Rattle.p3_theory.specs.Rings.Ring.{ring_of}
use Rattle.p3_theory.specs.Rings.Accumulation.{product_from_one}
use Rattle.p3_extension.specs.Values.{ext_laws, ext_ops, same_value}
use Rattle.p3_packed_extension.specs.PackedValues.{spread, same_packed}
use Rattle.p3_packed_extension.specs.Sizes.{scalars_fit}
use Rattle.p3_packed_extension.proofs.extension_values.PackedExtFieldProductExtField.product.Goals as goal

pub one-start-requires : goal.one-start-requires
one-start-requires g c = scalars_fit g.row.F g.row.S g.row.P g.row.D g.met.P.HoldsScalar.holds (search rules)

pub product_from-product-requires-room-R-Clone : goal.product_from-product-requires-room-R-Clone
product_from-product-requires-room-R-Clone g c κs within = scalars_fit g.row.F g.row.S g.row.P g.row.D g.met.P.HoldsScalar.holds (search rules)

pub product_from-product-requires-room-R-Mul : goal.product_from-product-requires-room-R-Mul
product_from-product-requires-room-R-Mul g c κs within = scalars_fit g.row.F g.row.S g.row.P g.row.D g.met.P.HoldsScalar.holds (search rules)

pub from-requires : goal.from-requires
from-requires g c = search (rules, scalars_fit g.row.F g.row.S g.row.P g.row.D g.met.P.HoldsScalar.holds (search rules))

pub returns : goal.returns
returns g c =
    let o = g.F.PrimeCharacteristicRing.ops in
    let m = g.met.F.ExtensionAlgebra in
    let f = g.F.ExtensionAlgebra.modulus in
    let e = g.P.Algebra.embed in
    let product = c.product_from-product.result in
    let ran = c.product_from-product.ensures.ran in
    record {
      ran = (
        ran.0,
        λ _. ran.1,
        same_packed g.P.PrimeCharacteristicRing.ops (map e f) c.from.result (spread e product) c.from.ensures
            ∙ ap (spread e)
            (product_from_one (ext_laws (ring_of g.met.F.PrimeCharacteristicRing.ring) g.row.D m.at_least_two f m.monic) _
            (λ x y r h. same_value r ((ext_ops o f).mul x y) (m.ext_products _ _ _ h)) c.one-start.result c.one-start.ensures ran.0 product ran.2),
      );
    }

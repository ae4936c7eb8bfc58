use Rattle.std.proofs.Common.{◌∙◌, ap, map}
use Rattle.p3_theory.specs.Rings.Ring.{ring_of}
use Rattle.p3_theory.specs.Polynomials.Polynomial.{embed}
use Rattle.p3_packed_extension.specs.PackedValues.{packed_ops, packed_laws, packed_sum, same_packed, spread, spread_product}
use Rattle.p3_packed_extension.proofs.extension_values.PackedExtFieldAlgebraExtField.mixed_dot_product.Goals as goal

pub returns : goal.returns
returns g c =
    let m = g.met.F.ExtensionAlgebra in
    let P = g.met.P.PrimeCharacteristicRing in
    let O = g.P.PrimeCharacteristicRing.ops in
    let e = g.P.Algebra.embed in
    let f = map e g.F.ExtensionAlgebra.modulus in
    c.sum_of_products.ensures (packed_ops O f) (packed_laws (ring_of P.ring) g.met.P.Algebra.embeds m.at_least_two g.F.ExtensionAlgebra.modulus m.monic) (spread e)
    (record { callable = λ _ _ _ _ _. P.adds.callable _ _; exact = packed_sum O f _ P.adds.exact })
    (record { callable = λ _ _. tt; exact = λ x v r h. spread_product O f e x v r (g.met.F.ExtensionOverAlgebra.packed_products _ _ _ h) })
    (same_packed O f c.constant.result ((packed_ops O f).zero) (◌∙◌ {b = embed O g.row.D c.zero.result} c.constant.ensures (ap (embed O g.row.D) c.zero.ensures)))

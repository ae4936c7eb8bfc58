use Rattle.std.proofs.Common.{map}
use Rattle.p3_theory.specs.Rings.Ring.{ring_of}
use Rattle.p3_theory.specs.Rings.Accumulation.{product_from_one}
use Rattle.p3_packed_extension.specs.PackedValues.{packed_laws, packed_product}
use Rattle.p3_packed_extension.proofs.packed_ext_field.PackedExtFieldProduct.product.Goals as goal

pub returns : goal.returns
returns g c =
    let o = g.P.PrimeCharacteristicRing.ops in
    let m = g.met.F.ExtensionAlgebra in
    let f = map g.P.Algebra.embed g.F.ExtensionAlgebra.modulus in
    let ran = c.product_from.ensures.ran in
    record {
      ran = (
        ran.0,
        λ _. ran.1,
        product_from_one (packed_laws (ring_of g.met.P.PrimeCharacteristicRing.ring) g.met.P.Algebra.embeds m.at_least_two g.F.ExtensionAlgebra.modulus m.monic) _
            (λ x y r h. packed_product o f x y r (g.met.F.ExtensionOverAlgebra.packed_products _ _ _ h)) c.one-start.result c.one-start.ensures ran.0 c.product_from.result ran.2,
      );
    }

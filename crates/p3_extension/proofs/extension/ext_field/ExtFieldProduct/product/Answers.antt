use Rattle.p3_theory.specs.Rings.Ring.{ring_of}
use Rattle.p3_theory.specs.Rings.Accumulation.{product_from_one}
use Rattle.p3_extension.specs.Values.{ext_laws, ext_ops, same_value}
use Rattle.p3_extension.proofs.extension.ext_field.ExtFieldProduct.product.Goals as goal

pub returns : goal.returns
returns g c =
    let o = g.A.PrimeCharacteristicRing.ops in
    let m = g.met.A.ExtensionAlgebra in
    let f = g.A.ExtensionAlgebra.modulus in
    let ran = c.product_from.ensures.ran in
    record {
      ran = (
        ran.0,
        λ _. ran.1,
        product_from_one (ext_laws (ring_of g.met.A.PrimeCharacteristicRing.ring) g.row.D m.at_least_two f m.monic) _
            (λ x y r h. same_value r ((ext_ops o f).mul x y) (m.ext_products _ _ _ h)) c.one-start.result c.one-start.ensures ran.0 c.product_from.result ran.2,
      );
    }

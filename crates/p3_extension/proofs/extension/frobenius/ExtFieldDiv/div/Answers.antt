use Rattle.p3_theory.specs.Rings.Ring.{ring_of}
use Rattle.p3_theory.specs.Rings.Basics.{quotient_exact}
use Rattle.p3_extension.specs.Values.{same_value, ext_laws, ext_ops}
use Rattle.p3_extension.proofs.extension.frobenius.ExtFieldDiv.div.Goals as goal

pub returns : goal.returns
returns g c =
    let o = g.F.PrimeCharacteristicRing.ops in
    let m = g.met.F.ExtensionAlgebra in
    let f = g.F.ExtensionAlgebra.modulus in
    quotient_exact (ring_of (ext_laws (ring_of g.met.F.PrimeCharacteristicRing.ring) g.row.D m.at_least_two f m.monic)) c.args.self c.args.other c.unwrap.result c.mul.result
    (rw c.unwrap.ensures at c.exact_inverse.ensures)
    (same_value c.mul.result ((ext_ops o f).mul c.args.self c.unwrap.result) (m.ext_products _ _ _ c.mul.ensures))

use Rattle.std.proofs.Common.{map}
use Rattle.p3_theory.specs.Rings.Ring.{ring_of}
use Rattle.p3_theory.specs.Rings.Basics.{quotient_exact}
use Rattle.p3_packed_extension.specs.PackedValues.{packed_laws, packed_product, spread, spread_keeps}
use Rattle.p3_packed_extension.specs.Quotients.{inverse_kept}
use Rattle.p3_packed_extension.proofs.division.PackedExtFieldDivExtField.div.Goals as goal

pub returns : goal.returns
returns g c =
    let m = g.met.F.ExtensionAlgebra in
    let f = g.F.ExtensionAlgebra.modulus in
    let e = g.P.Algebra.embed in
    let O = g.P.PrimeCharacteristicRing.ops in
    let i = spread e c.inverse.result in
    quotient_exact (ring_of (packed_laws (ring_of g.met.P.PrimeCharacteristicRing.ring) g.met.P.Algebra.embeds m.at_least_two f m.monic)) c.args.self (spread e c.args.rhs) i c.mul.result
    (inverse_kept (spread_keeps O g.F.PrimeCharacteristicRing.ops e g.met.P.Algebra.embeds f) c.args.rhs c.inverse.result c.inverse.ensures)
    (packed_product O (map e f) c.args.self i c.mul.result (g.met.F.ExtensionOverAlgebra.packed_products _ _ _ c.mul.ensures))

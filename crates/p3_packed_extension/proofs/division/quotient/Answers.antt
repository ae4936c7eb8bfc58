use Rattle.std.proofs.Common.{map}
use Rattle.p3_theory.specs.Rings.Ring.{ring_of}
use Rattle.p3_theory.specs.Rings.Basics.{quotient_exact}
use Rattle.p3_packed_extension.specs.PackedValues.{packed_laws, packed_product}
use Rattle.p3_packed_extension.proofs.division.quotient.Goals as goal

pub returns : goal.returns
returns g c =
    let m = g.met.F.ExtensionAlgebra in
    let f = g.F.ExtensionAlgebra.modulus in
    let O = g.P.PrimeCharacteristicRing.ops in
    let i = c.inverse_of_lanes.result in
    quotient_exact (ring_of (packed_laws (ring_of g.met.P.PrimeCharacteristicRing.ring) g.met.P.Algebra.embeds m.at_least_two f m.monic)) c.args.x c.args.y i c.mul.result
    c.inverse_of_lanes.ensures
    (packed_product O (map g.P.Algebra.embed f) c.args.x i c.mul.result (g.met.F.ExtensionOverAlgebra.packed_products _ _ _ c.mul.ensures))

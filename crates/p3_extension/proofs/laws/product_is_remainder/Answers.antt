use Rattle.p3_theory.specs.Rings.Ring.{ring_of}
use Rattle.p3_theory.specs.Polynomials.Remainders.{has_remainder, remainder_is_unique}
use Rattle.p3_extension.proofs.laws.product_is_remainder.Goals as goal

pub returns-clause-remainder : goal.returns-clause-remainder
returns-clause-remainder g c =
    let m = g.met.A.ExtensionAlgebra in
    has_remainder (ring_of g.met.A.PrimeCharacteristicRing.ring) g.row.D m.at_least_two g.A.ExtensionAlgebra.modulus m.monic _

pub returns-clause-unique : goal.returns-clause-unique
returns-clause-unique g c =
    let m = g.met.A.ExtensionAlgebra in
    remainder_is_unique (ring_of g.met.A.PrimeCharacteristicRing.ring) g.row.D m.at_least_two g.A.ExtensionAlgebra.modulus m.monic _

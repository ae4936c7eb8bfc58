use Rattle.p3_theory.specs.Rings.Ring.{ring_of}
use Rattle.p3_extension.specs.Bases.{multiple_of_one}
use Rattle.p3_extension.proofs.extension.ext_field.ExtFieldPrimeCharacteristicRing.from_prime_subfield.Goals as goal

pub returns : goal.returns
returns g c =
    let m = g.met.A.ExtensionAlgebra in
    multiple_of_one (ring_of g.met.A.PrimeCharacteristicRing.ring) g.row.D m.at_least_two g.A.ExtensionAlgebra.modulus m.monic c.constant.result c.from_prime_subfield.result _
    c.constant.ensures c.from_prime_subfield.ensures

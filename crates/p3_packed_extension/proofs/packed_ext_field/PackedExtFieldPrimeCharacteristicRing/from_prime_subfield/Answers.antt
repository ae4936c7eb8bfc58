use Rattle.p3_theory.specs.Rings.Ring.{ring_of}
use Rattle.p3_packed_extension.specs.PackedValues.{packed_multiple}
use Rattle.p3_packed_extension.proofs.packed_ext_field.PackedExtFieldPrimeCharacteristicRing.from_prime_subfield.Goals as goal

pub returns : goal.returns
returns g c =
    let m = g.met.F.ExtensionAlgebra in
    packed_multiple (ring_of g.met.P.PrimeCharacteristicRing.ring) g.met.P.Algebra.embeds m.at_least_two g.F.ExtensionAlgebra.modulus m.monic
    c.constant.result c.from_prime_subfield.result _ c.constant.ensures c.from_prime_subfield.ensures

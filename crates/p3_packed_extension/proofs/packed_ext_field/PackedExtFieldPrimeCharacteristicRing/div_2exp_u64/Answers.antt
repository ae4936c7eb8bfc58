use Rattle.p3_theory.specs.Rings.Ring.{ring_of}
use Rattle.p3_packed_extension.specs.PackedValues.{packed_half_of_base, packed_halved}
use Rattle.p3_packed_extension.proofs.packed_ext_field.PackedExtFieldPrimeCharacteristicRing.div_2exp_u64.Goals as goal

pub div_2exp_u64-requires : goal.div_2exp_u64-requires
div_2exp_u64-requires g c =
    let m = g.met.F.ExtensionAlgebra in
    packed_half_of_base (ring_of g.met.P.PrimeCharacteristicRing.ring) g.met.P.Algebra.embeds m.at_least_two g.F.ExtensionAlgebra.modulus m.monic c.requires

pub returns : goal.returns
returns g c =
    let m = g.met.F.ExtensionAlgebra in
    packed_halved (ring_of g.met.P.PrimeCharacteristicRing.ring) g.met.P.Algebra.embeds m.at_least_two g.F.ExtensionAlgebra.modulus m.monic
    c.args.self.now c.new.result c.args.exponent c.loop-i.value c.loop-i.i c.loop-i-test.false c.new.ensures c.loop-i.invariant.1

use Rattle.std.proofs.Common.{arith, ◌∙◌}
use Rattle.p3_theory.specs.Rings.Ring.{ring_of}
use Rattle.p3_theory.specs.Polynomials.BaseProduct.{base_product}
use Rattle.p3_extension.proofs.extension.ExtensionAlgebra.ext_base_mul.Goals as goal

pub returns : goal.returns
returns g c =
    let o = g.Self.PrimeCharacteristicRing.ops in
    let m = g.met.Self.ExtensionAlgebra in
    c.scale_each.ensures g.row.D o c.requires.left g.met.Self.PrimeCharacteristicRing.muls
    ∙ base_product (ring_of g.met.Self.PrimeCharacteristicRing.ring) g.row.D (omega (arith, m.at_least_two)) g.Self.ExtensionAlgebra.modulus m.monic c.args.lhs.now c.args.rhs c.requires.left

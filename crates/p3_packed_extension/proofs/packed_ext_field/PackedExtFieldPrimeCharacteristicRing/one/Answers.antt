use Rattle.std.proofs.Common.{◌∙◌, ap, map}
use Rattle.p3_theory.specs.Polynomials.Polynomial.{embed}
use Rattle.p3_packed_extension.specs.PackedValues.{packed_ops, same_packed}
use Rattle.p3_packed_extension.proofs.packed_ext_field.PackedExtFieldPrimeCharacteristicRing.one.Goals as goal

pub returns : goal.returns
returns g c =
    let o = g.P.PrimeCharacteristicRing.ops in
    let f = map g.P.Algebra.embed g.F.ExtensionAlgebra.modulus in
    same_packed o f c.constant.result ((packed_ops o f).one) (◌∙◌ {b = embed o g.row.D c.one.result} c.constant.ensures (ap (embed o g.row.D) c.one.ensures))

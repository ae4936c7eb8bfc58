use Rattle.std.proofs.Common.{◌∙◌, ap, sym}
use Rattle.p3_theory.specs.Polynomials.Polynomial.{at, quotient_mul}
use Rattle.p3_extension.proofs.extension.polynomial_extension.AnyFrobeniusExtendableModulo.constant_of_product.Goals as goal

pub returns : goal.returns
returns g c =
    let o = g.F.PrimeCharacteristicRing.ops in
    c.constant_of_product.ensures ∙ ap (λ f. at o (quotient_mul o g.row.D f c.args.a.now c.args.b.now) 0) (sym g.met.F.ExtensionAlgebra.of_shape)

use Rattle.std.proofs.Common.{◌≤◌, ap, sym, ◌∙◌, arith}
use Rattle.p3_theory.specs.Rings.Ring.{ring_of}
use Rattle.p3_theory.specs.Polynomials.Polynomial.{at, quotient_mul}
use Rattle.p3_theory.specs.Products.ProductCoefficients.{product_coefficient}
use Rattle.p3_theory.specs.Products.CoefficientProducts.{coefficient_of_product}
use Rattle.p3_extension.proofs.extension.binomial_extension.AnyFrobeniusExtendableBinomial.constant_of_product.Goals as goal

pub returns : goal.returns
returns g c =
    let o = g.F.PrimeCharacteristicRing.ops in
    let a = c.args.a.now in
    let b = c.args.b.now in
    let degree : 2 ≤ g.row.D = g.met.F.ExtensionAlgebra.at_least_two in
    c.compute_coefficient.ensures
    ∙ ap (λ w. product_coefficient o g.row.D w a b 0) c.w.ensures
    ∙ coefficient_of_product (ring_of g.met.F.PrimeCharacteristicRing.ring) g.row.D (omega (arith, degree)) g.F.BinomiallyExtendable.w a b c.requires.left c.requires.right 0 (omega (arith, degree))
    ∙ ap (λ f. at o (quotient_mul o g.row.D f a b) 0) (sym g.met.F.BinomiallyExtendable.by_w)

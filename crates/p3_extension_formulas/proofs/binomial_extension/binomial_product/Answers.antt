use Rattle.std.proofs.Common.{◌≡◌, ◌∙◌, ap, length, replicate, rules}
use Rattle.p3_theory.specs.Rings.Ring.{ring_of}
use Rattle.p3_theory.specs.Polynomials.Polynomial.{binomial}
use Rattle.p3_theory.specs.Products.CoefficientProducts.{product_onto_zeros}
use Rattle.p3_extension_formulas.proofs.binomial_extension.binomial_product.Goals as goal

pub returns-then-not-fixed_mul : goal.returns-then-not-fixed_mul
returns-then-not-fixed_mul g c =
    let o = g.A.PrimeCharacteristicRing.ops in
    let width : length c.fixed_mul.new.res ≡ g.row.D = search rules in
    product_onto_zeros (ring_of g.met.A.PrimeCharacteristicRing.ring) g.row.D (binomial o g.row.D (g.A.Algebra.embed c.args.w)) c.args.a.now c.args.b.now c.clear.new.res c.general_mul.new.res
    (c.clear.ensures ∙ ap (λ n. replicate n o.zero) width) c.general_mul.ensures

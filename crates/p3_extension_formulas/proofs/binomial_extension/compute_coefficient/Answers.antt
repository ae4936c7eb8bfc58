use Rattle.std.proofs.Common.{◌≡◌, ◌-◌, arith}
use Rattle.p3_theory.specs.Rings.Ring.{ring_of}
use Rattle.p3_theory.specs.Products.CoefficientProducts.{top_coefficient}
use Rattle.p3_extension_formulas.proofs.binomial_extension.compute_coefficient.Goals as goal

pub returns-then-above-eq0 : goal.returns-then-above-eq0
returns-then-above-eq0 g c =
    let none : c.args.degree - 1 - c.args.k ≡ 0 = omega arith in
    top_coefficient (ring_of g.met.A.PrimeCharacteristicRing.ring) c.args.degree c.args.k none (g.A.Algebra.embed c.args.w) c.products_at-low.result c.args.a.now c.args.b.now
    c.products_at-low.ensures

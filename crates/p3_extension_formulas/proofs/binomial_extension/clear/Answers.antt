use Rattle.std.proofs.Common.{arith}
use Rattle.p3_theory.specs.Products.ProductCoefficients.{all_zero}
use Rattle.p3_extension_formulas.proofs.binomial_extension.clear.Goals as goal

pub returns : goal.returns
returns g c =
    let o = g.A.PrimeCharacteristicRing.ops in
    all_zero _ c.loop-i.res o.zero c.loop-i.invariant.0 (λ k h. c.loop-i.invariant.1 k (omega arith))

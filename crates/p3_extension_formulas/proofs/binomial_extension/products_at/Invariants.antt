use Rattle.std.proofs.Common.{◌≡◌, ◌+◌, ◌-◌, get_or}
use Rattle.p3_theory.specs.Polynomials.ConvolutionSums.{first_sum}
use Rattle.p3_extension_formulas.proofs.binomial_extension.products_at.Given as goal

abbrev pub invariant-loop-i : goal.invariant-loop-i
invariant-loop-i g l =
    let o = g.A.PrimeCharacteristicRing.ops in
    l.sum ≡ first_sum o.zero o.add l.i (λ i. o.mul (get_or l.fn.a (l.fn.skip + i) o.zero) (get_or l.fn.b (l.fn.top - i) o.zero))

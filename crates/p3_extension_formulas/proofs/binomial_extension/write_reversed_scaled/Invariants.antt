use Rattle.std.proofs.Common.{◌≡◌, length, get_or, reverse}
use Rattle.p3_theory.specs.Lists.TabulatedEntries.{HoldsBelow}
use Rattle.p3_extension_formulas.proofs.binomial_extension.write_reversed_scaled.Given as goal

abbrev pub invariant-loop-i : goal.invariant-loop-i
invariant-loop-i g l =
    let o = g.A.PrimeCharacteristicRing.ops in
    (length l.res ≡ length l.fn.b) × HoldsBelow (λ k. o.mul (get_or (reverse l.fn.b) k o.zero) (g.A.Algebra.embed l.fn.w)) o.zero l.res l.i

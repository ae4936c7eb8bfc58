use Rattle.std.proofs.Common.{◌≡◌, length}
use Rattle.p3_theory.specs.Lists.TabulatedEntries.{HoldsBelow}
use Rattle.p3_extension_formulas.proofs.binomial_extension.clear.Given as goal

abbrev pub invariant-loop-i : goal.invariant-loop-i
invariant-loop-i g l =
    let o = g.A.PrimeCharacteristicRing.ops in
    (length l.res ≡ length l.fn.res) × HoldsBelow (λ k. o.zero) o.zero l.res l.i

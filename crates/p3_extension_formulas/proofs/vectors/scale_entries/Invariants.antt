use Rattle.std.proofs.Common.{get_or}
use Rattle.p3_theory.specs.Lists.TabulatedEntries.{HoldsBelow}
use Rattle.p3_extension_formulas.proofs.vectors.scale_entries.Given as goal

abbrev pub invariant-loop-i : goal.invariant-loop-i
invariant-loop-i g l =
    let o = g.R.PrimeCharacteristicRing.ops in
    HoldsBelow (λ k. o.mul (get_or l.a k o.zero) l.factor) o.zero l.res l.i

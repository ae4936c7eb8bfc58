use Rattle.std.proofs.Common.{get_or, map}
use Rattle.p3_theory.specs.Rings.Ring.{subtract}
use Rattle.p3_theory.specs.Lists.TabulatedEntries.{HoldsBelow}
use Rattle.p3_extension_formulas.proofs.vectors.sub_entries.Given as goal

abbrev pub invariant-loop-i : goal.invariant-loop-i
invariant-loop-i g l =
    let o = g.R.PrimeCharacteristicRing.ops in
    HoldsBelow (λ k. subtract o (get_or l.a k o.zero) (get_or (map g.R.Algebra.embed l.b) k o.zero)) o.zero l.res l.i

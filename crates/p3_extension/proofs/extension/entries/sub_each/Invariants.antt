use Rattle.std.proofs.Common.{get_or}
use Rattle.p3_theory.specs.Rings.Ring.{Ops, subtract}
use Rattle.p3_theory.specs.Rings.Operators.{Gives}
use Rattle.p3_theory.specs.Lists.TabulatedEntries.{HoldsBelow}
use Rattle.p3_extension.proofs.extension.entries.sub_each.Given as goal

abbrev pub invariant-loop-i : goal.invariant-loop-i
invariant-loop-i g l =
    (o : Ops g.row.A.Denot) → Gives g.A.Sub.can_sub g.A.Sub.sub_gives (subtract o) → HoldsBelow (λ k. subtract o (get_or l.a k o.zero) (get_or l.b k o.zero)) o.zero l.res l.i

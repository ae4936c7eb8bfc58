use Rattle.std.proofs.Common.{get_or}
use Rattle.p3_theory.specs.Rings.Ring.{Ops}
use Rattle.p3_theory.specs.Rings.Operators.{Gives}
use Rattle.p3_theory.specs.Lists.TabulatedEntries.{HoldsBelow}
use Rattle.p3_extension.proofs.extension.entries.add_each.Given as goal

abbrev pub invariant-loop-i : goal.invariant-loop-i
invariant-loop-i g l =
    (o : Ops g.row.A.Denot) → Gives g.A.Add.can_add g.A.Add.add_gives o.add → HoldsBelow (λ k. o.add (get_or l.a k o.zero) (get_or l.b k o.zero)) o.zero l.res l.i

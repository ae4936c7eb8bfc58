use Rattle.std.proofs.Common.{get_or}
use Rattle.p3_theory.specs.Rings.Ring.{Ops}
use Rattle.p3_theory.specs.Rings.Operators.{Gives}
use Rattle.p3_theory.specs.Lists.TabulatedEntries.{HoldsBelow}
use Rattle.p3_extension.proofs.extension.entries.scale_each.Given as goal

abbrev pub invariant-loop-i : goal.invariant-loop-i
invariant-loop-i g l =
    (o : Ops g.row.A.Denot) → Gives g.A.Mul.can_mul g.A.Mul.mul_gives o.mul → HoldsBelow (λ k. o.mul (get_or l.a k o.zero) l.factor) o.zero l.res l.i

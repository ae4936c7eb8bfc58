use Rattle.std.proofs.Common.{◌≡◌, ◌≤◌, ◌-◌, length, drop}
use Rattle.p3_theory.specs.Rings.Operators.{Gives, sum_list}
use Rattle.p3_theory.specs.Rings.Ring.{Ops, RingLaws}
use Rattle.p3_ring.proofs.sums.sum_in_pairs.Given as goal

abbrev pub invariant-loop-start : goal.invariant-loop-start
invariant-loop-start g l =
    record {
      inside : l.start ≤ length l.input;
      makes : (o : Ops g.row.A.Denot) → RingLaws o → Gives g.A.Add.can_add g.A.Add.add_gives o.add → l.zero ≡ o.zero
          → o.add l.sum (sum_list o (drop l.start l.input)) ≡ sum_list o l.input;
    }

abbrev pub decreases-loop-start : goal.decreases-loop-start
decreases-loop-start g l = length l.input - l.start

use Rattle.p3_theory.specs.Rings.Accumulation.{Accumulates}
use Rattle.p3_integers.proofs.accumulate.sum_from.Given as goal

abbrev pub invariant-loop-x : goal.invariant-loop-x
invariant-loop-x g l =
    (goal.iterator-loop-x g).can_next l.x-iterator × (goal.iterator-loop-x g).is_finite l.x-iterator × Accumulates g.R.Add.add_gives l.fn.start l.yielded l.sum

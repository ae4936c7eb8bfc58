use Rattle.std.proofs.Common.{◌≡◌}
use Rattle.std.specs.Prelude.{fold}
use Rattle.p3_helpers.proofs.helpers.HornerIter.horner_acc.Given as goal

abbrev pub invariant-loop-coefficient : goal.invariant-loop-coefficient
invariant-loop-coefficient g l =
    let o = g.Acc.PrimeCharacteristicRing.ops in
    let step = λ (y : g.row.Acc.Denot) (v : g.row.Self-Item.Denot). o.add (o.mul y (g.Acc.Algebra-1.embed l.x)) (g.Acc.Algebra-2.embed v) in
    (goal.iterator-loop-coefficient g).can_next l.coefficient-iterator × (goal.iterator-loop-coefficient g).is_finite l.coefficient-iterator
    × (l.sum ≡ fold step l.fn.acc l.yielded)

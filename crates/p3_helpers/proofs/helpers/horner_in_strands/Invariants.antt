use Rattle.std.proofs.Common.{◌≡◌}
use Rattle.std.specs.Prelude.{fold}
use Rattle.p3_helpers.proofs.TurningStrands.{joined}
use Rattle.p3_helpers.proofs.helpers.horner_in_strands.Given as goal

abbrev pub invariant-loop-coefficient : goal.invariant-loop-coefficient
invariant-loop-coefficient g l =
    let o = g.Acc.PrimeCharacteristicRing.ops in
    let point = g.Acc.Algebra-1.embed l.x in
    let step = λ (y : g.row.Acc.Denot) (v : g.row.I-Item.Denot). o.add (o.mul y point) (g.Acc.Algebra-2.embed v) in
    (goal.iterator-loop-coefficient g).can_next l.coefficient-iterator × (goal.iterator-loop-coefficient g).is_finite l.coefficient-iterator
    × (joined o point l.s0 l.s1 l.s2 l.s3 ≡ fold step l.fn.acc l.yielded)

use Rattle.std.proofs.Common.{◌≡◌, ◌+◌, ◌-◌, ◌≤◌, Ok, length, take}
use Rattle.p3_calculator.specs.RunSoFar.{TakesBytes}
use Rattle.p3_calculator.proofs.run.take_all.Given as goal

abbrev pub invariant-loop-at : goal.invariant-loop-at
invariant-loop-at g l =
    (l.at ≤ length l.bytes) × (l.machine.number ≤ l.fn.machine.number + l.at) × (g.W.Sink.failed l.writer ≡ g.W.Sink.failed l.fn.writer)
    × TakesBytes l.fn.machine l.machine (g.W.Sink.contents l.fn.writer) (g.W.Sink.contents l.writer) (Ok tt) (take l.at l.bytes)

abbrev pub decreases-loop-at : goal.decreases-loop-at
decreases-loop-at g l = length l.bytes - l.at

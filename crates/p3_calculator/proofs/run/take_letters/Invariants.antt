use Rattle.std.proofs.Common.{◌-◌, ◌≡◌, ◌≤◌, ◌++◌, take, ◌+◌}
use Rattle.p3_calculator.specs.RunSoFar.{HasNoEnd}
use Rattle.p3_calculator.proofs.run.take_letters.Given as goal

abbrev pub invariant-loop-count : goal.invariant-loop-count
invariant-loop-count l =
    (l.count ≤ l.most) × (take (l.used + l.count) l.line.bytes ≡ take l.used l.fn.line.bytes ++ take l.count l.bytes) × HasNoEnd (take l.count l.bytes)

abbrev pub decreases-loop-count : goal.decreases-loop-count
decreases-loop-count l = l.most - l.count

use Rattle.std.proofs.Common.{ℕ, ◌<◌, ◌≤◌, ◌-◌, get_or}
use Rattle.test_lanes.proofs.numbers.all_below.Given as goal

abbrev pub invariant-numbers : goal.invariant-numbers
invariant-numbers g l = (l.i ≤ g.row.N) × ((k : ℕ) → k < l.i → get_or l.numbers k 0 < l.order)

abbrev pub decreases-numbers : goal.decreases-numbers
decreases-numbers g l = g.row.N - l.i

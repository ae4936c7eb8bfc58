use Rattle.std.proofs.Common.{◌≡◌, ◌<◌, ℕ, length, get_or}
use Rattle.p3_prime_fields.proofs.lane_sums.sums_by_index.Given as goal

abbrev pub invariant-loop-i : goal.invariant-loop-i
invariant-loop-i g l =
    (length l.sums ≡ g.row.N)
    × ((d : g.row.F.Denot) (k : ℕ) → k < l.i → g.F.Add.add_gives (get_or l.left k d) (get_or l.right k d) (get_or l.sums k d))

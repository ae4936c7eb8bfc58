use Rattle.std.proofs.Common.{◌≡◌, ◌<◌, ℕ, length, get_or}
use Rattle.p3_packed_prime_fields.proofs.lane_arithmetic.differences_by_index.Given as goal

abbrev pub invariant-loop-i : goal.invariant-loop-i
invariant-loop-i g l =
    (length l.differences ≡ g.row.N)
    × ((d : g.row.F.Denot) (k : ℕ) → k < l.i → g.F.Sub.sub_gives (get_or l.left k d) (get_or l.right k d) (get_or l.differences k d))

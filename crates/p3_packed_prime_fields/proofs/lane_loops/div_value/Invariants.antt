use Rattle.std.proofs.Common.{◌≡◌, ◌<◌, ℕ, length, get_or}
use Rattle.p3_packed_prime_fields.proofs.lane_loops.div_value.Given as goal

abbrev pub invariant-loop-i : goal.invariant-loop-i
invariant-loop-i g l =
    (length l.value ≡ g.row.N)
    × ((d : g.row.F.Denot) (k : ℕ) → k < l.i → g.F.Div.div_gives (get_or l.x.value k d) l.y (get_or l.value k d))

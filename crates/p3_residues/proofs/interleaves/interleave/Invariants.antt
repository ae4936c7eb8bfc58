use Rattle.std.proofs.Common.{◌≡◌, ℕ, ◌+◌, ◌-◌, ◌/◌, ◌%◌, ◌<◌, ◌≤◌, get_or, length}
use Rattle.p3_residues.proofs.interleaves.interleave.Given as goal

abbrev pub invariant-lanes : goal.invariant-lanes
invariant-lanes g l =
    (l.i ≤ g.row.N)
    × (length l.first ≡ g.row.N)
    × (length l.second ≡ g.row.N)
    × ((k : ℕ) → k / g.row.L % 2 ≡ 0 → get_or l.first k 0 ≡ get_or l.x k 0)
    × ((k : ℕ) → k < l.i → k / g.row.L % 2 ≡ 1 → get_or l.first k 0 ≡ get_or l.y (k - g.row.L) 0)
    × ((k : ℕ) → k < l.i → k / g.row.L % 2 ≡ 0 → get_or l.second k 0 ≡ get_or l.x (k + g.row.L) 0)
    × ((k : ℕ) → k / g.row.L % 2 ≡ 1 → get_or l.second k 0 ≡ get_or l.y k 0)

abbrev pub decreases-lanes : goal.decreases-lanes
decreases-lanes g l = g.row.N - l.i

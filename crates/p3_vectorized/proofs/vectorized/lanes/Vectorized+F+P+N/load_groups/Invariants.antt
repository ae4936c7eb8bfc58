use Rattle.std.proofs.Common.{◌≡◌, ◌<◌, ◌+◌, ◌*◌, ℕ, length, get_or, slice_range}
use Rattle.p3_vectorized.proofs.vectorized.lanes.Vectorized+F+P+N.load_groups.Given as goal

abbrev pub invariant-loop-i : goal.invariant-loop-i
invariant-loop-i g l =
    let w = g.P.PackedValue.WIDTH in
    (length l.items ≡ g.row.N) × ((d : g.row.P.Denot) (k : ℕ) → k < l.i → g.P.PackedValue.lanes (get_or l.items k d) ≡ slice_range l.slice (k * w) (k * w + w))

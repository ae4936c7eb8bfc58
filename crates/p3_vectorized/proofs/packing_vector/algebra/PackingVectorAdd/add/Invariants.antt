use Rattle.std.proofs.Common.{◌≡◌, ◌<◌, ℕ, length, get_or}
use Rattle.p3_vectorized.proofs.packing_vector.algebra.PackingVectorAdd.add.Given as goal

abbrev pub invariant-loop-i : goal.invariant-loop-i
invariant-loop-i g l =
    (length l.items ≡ g.row.N) × ((d : g.row.P.Denot) (k : ℕ) → k < l.i → g.P.Add-2.add_gives (get_or l.xs k d) l.rhs (get_or l.items k d))

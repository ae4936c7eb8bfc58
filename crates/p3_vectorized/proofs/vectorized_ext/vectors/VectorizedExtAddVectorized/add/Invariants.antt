use Rattle.std.proofs.Common.{◌≡◌, ◌<◌, ℕ, length, get_or}
use Rattle.p3_vectorized.proofs.vectorized_ext.vectors.VectorizedExtAddVectorized.add.Given as goal

abbrev pub invariant-loop-i : goal.invariant-loop-i
invariant-loop-i g l =
    (length l.items ≡ g.row.N)
    × ((d : g.row.PE.Denot) (e : g.row.P.Denot) (k : ℕ) → k < l.i → g.PE.Add-2.add_gives (get_or l.xs k d) (get_or l.ys k e) (get_or l.items k d))

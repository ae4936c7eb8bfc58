use Rattle.std.proofs.Common.{◌≡◌, ◌<◌, ℕ, length, get_or}
use Rattle.p3_vectorized.proofs.vectorized_ext.vectors.VectorizedExtFromVectorized.from.Given as goal

abbrev pub invariant-loop-i : goal.invariant-loop-i
invariant-loop-i g l =
    (length l.items ≡ g.row.N)
    × ((d : g.row.P.Denot) (e : g.row.PE.Denot) (k : ℕ) → k < l.i → g.PE.From.from_gives (get_or l.xs k d) (get_or l.items k e))

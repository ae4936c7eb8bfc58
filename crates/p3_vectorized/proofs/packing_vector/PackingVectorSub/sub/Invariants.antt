use Rattle.std.proofs.Common.{◌≡◌, ◌<◌, ℕ, length, get_or}
use Rattle.p3_theory.specs.Rings.Ring.{subtract}
use Rattle.p3_vectorized.proofs.packing_vector.PackingVectorSub.sub.Given as goal

abbrev pub invariant-loop-i : goal.invariant-loop-i
invariant-loop-i g l =
    let o = g.P.PrimeCharacteristicRing.ops in
    (length l.items ≡ g.row.N) × ((d : g.row.P.Denot) (k : ℕ) → k < l.i → get_or l.items k d ≡ subtract o (get_or l.xs k d) (get_or l.ys k d))

use Rattle.std.proofs.Common.{◌≡◌, ◌<◌, ℕ, length, get_or}
use Rattle.p3_vectorized.proofs.array.quotients.FieldArrayDiv.div.Given as goal

abbrev pub invariant-loop-i : goal.invariant-loop-i
invariant-loop-i g l =
    let o = g.F.PrimeCharacteristicRing.ops in
    (length l.items ≡ g.row.N) × ((d : g.row.F.Denot) (k : ℕ) → k < l.i → o.mul (get_or l.items k d) (get_or l.ys k d) ≡ get_or l.xs k d)

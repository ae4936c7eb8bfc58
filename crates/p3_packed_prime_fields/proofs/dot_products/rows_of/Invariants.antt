use Rattle.std.proofs.Common.{◌≡◌, ◌<◌, List, length, map, ℕ, get_or}
use Rattle.p3_packed_prime_fields.proofs.dot_products.rows_of.Given as goal

abbrev pub invariant-loop-i : goal.invariant-loop-i
invariant-loop-i g l =
    (length l.rows ≡ g.row.K)
    × ((d : List g.row.F.Denot) (k : ℕ) → k < l.i → get_or l.rows k d ≡ get_or (map (λ packing. packing.value) l.packings) k d)

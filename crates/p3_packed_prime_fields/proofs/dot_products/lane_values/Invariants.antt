use Rattle.std.proofs.Common.{◌≡◌, ◌<◌, length, map, ℕ, get_or}
use Rattle.p3_theory.specs.Lanes.RowRing.{item}
use Rattle.p3_packed_prime_fields.specs.Values.{packed_rows}
use Rattle.p3_packed_prime_fields.proofs.dot_products.lane_values.Given as goal

abbrev pub invariant-loop-i : goal.invariant-loop-i
invariant-loop-i g l =
    let o = g.F.PrimeCharacteristicRing.ops in
    (length l.values ≡ g.row.K)
    × ((d : g.row.F.Denot) (k : ℕ) → k < l.i → get_or l.values k d ≡ get_or (map (item packed_rows o l.lane) l.packings) k d)

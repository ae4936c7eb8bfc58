use Rattle.std.proofs.Common.{◌≡◌, ◌<◌, length, map, ℕ, get_or}
use Rattle.p3_theory.specs.Rings.DotProduct.{dot}
use Rattle.p3_theory.specs.Lanes.RowRing.{item}
use Rattle.p3_packed_prime_fields.specs.Values.{packed_rows}
use Rattle.p3_packed_prime_fields.proofs.dot_products.dot_by_lanes.Given as goal

abbrev pub invariant-loop-lane : goal.invariant-loop-lane
invariant-loop-lane g l =
    let o = g.F.PrimeCharacteristicRing.ops in
    (length l.value ≡ g.row.N)
    × ((d : g.row.F.Denot) (k : ℕ) → k < l.lane → get_or l.value k d ≡ dot o (map (item packed_rows o k) l.u) (map (item packed_rows o k) l.v))

use Rattle.std.proofs.Common.{◌≡◌, ◌<◌, ℕ, length, get_or}
use Rattle.p3_packed_prime_fields.proofs.lane_loops.halve_lanes.Given as goal

abbrev pub invariant-loop-i : goal.invariant-loop-i
invariant-loop-i g l =
    let o = g.F.PrimeCharacteristicRing.ops in
    (length l.value ≡ g.row.N) × ((d : g.row.F.Denot) (k : ℕ) → k < l.i → o.add (get_or l.value k d) (get_or l.value k d) ≡ get_or l.x.value k d)

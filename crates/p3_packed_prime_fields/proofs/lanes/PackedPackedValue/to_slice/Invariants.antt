use Rattle.std.proofs.Common.{◌≡◌, ◌<◌, ℕ, length, get_or}
use Rattle.p3_packed_prime_fields.proofs.lanes.PackedPackedValue.to_slice.Given as goal

abbrev pub invariant-loop-lane : goal.invariant-loop-lane
invariant-loop-lane g l =
    (length l.out ≡ g.row.N) × ((d : g.row.F.Denot) (k : ℕ) → k < l.lane → get_or l.out k d ≡ get_or l.self.value k d)

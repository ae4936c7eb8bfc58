use Rattle.std.proofs.Common.{◌≡◌, length}
use Rattle.p3_theory.specs.Lanes.InterleavedBelow.{InterleavedBelow}
use Rattle.p3_packed_prime_fields.proofs.lane_loops.interleave_lanes.Given as goal

abbrev pub invariant-loop-i : goal.invariant-loop-i
invariant-loop-i g l =
    (length l.first ≡ g.row.N) × (length l.second ≡ g.row.N) × InterleavedBelow l.block_len l.i l.x.value l.y.value l.first l.second

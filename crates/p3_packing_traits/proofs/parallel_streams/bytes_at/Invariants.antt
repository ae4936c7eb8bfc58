use Rattle.std.proofs.Common.{◌≡◌, ◌<◌, ℕ, length, slice_index, slice_index_or}
use Rattle.p3_packing_traits.proofs.parallel_streams.bytes_at.Given as goal

abbrev pub invariant-loop-j : goal.invariant-loop-j
invariant-loop-j g l = record {
  long : length l.bytes ≡ g.row.N;
  read : (k : ℕ) (d : g.row.F.Denot) → k < l.j → slice_index l.bytes k ≡ slice_index (g.F.RawDataSerializable.bytes (slice_index_or l.values k d)) l.i;
}

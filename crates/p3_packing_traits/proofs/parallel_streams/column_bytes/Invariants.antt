use Rattle.std.proofs.Common.{◌≡◌, ◌<◌, ℕ, List, length, slice_index, slice_index_or}
use Rattle.p3_packing_traits.proofs.parallel_streams.column_bytes.Given as goal

abbrev pub invariant-loop-i : goal.invariant-loop-i
invariant-loop-i g l = record {
  long : length l.bytes ≡ g.row.M;
  read : (k : ℕ) (d : List ℕ) → k < l.i → slice_index l.bytes k ≡ slice_index (slice_index_or l.rows k d) l.j;
}

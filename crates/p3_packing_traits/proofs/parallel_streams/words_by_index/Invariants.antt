use Rattle.std.proofs.Common.{◌≡◌, ◌<◌, ℕ, length, map, slice_index, get_or}
use Rattle.p3_packing_traits.proofs.parallel_streams.words_by_index.Given as goal

abbrev pub invariant-loop-j : goal.invariant-loop-j
invariant-loop-j g l = record {
  long : length l.words ≡ g.row.N;
  read : (k : ℕ) → k < l.j → get_or l.words k l.fn.zero ≡ g.W.StreamWord.read (map (λ row. slice_index row k) l.rows);
}

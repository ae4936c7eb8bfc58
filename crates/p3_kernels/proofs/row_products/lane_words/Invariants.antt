use Rattle.std.proofs.Common.{◌≡◌, ◌<◌, ◌+◌, ◌^◌, ℕ, length, get_or}
use Rattle.p3_kernels.specs.Words.{AreBelow}
use Rattle.p3_kernels.proofs.row_products.lane_words.Given as goal

abbrev pub invariant-loop-k : goal.invariant-loop-k
invariant-loop-k g l = (length l.words ≡ g.row.L) × AreBelow l.k (2 ^ 32) l.words × ((k : ℕ) → k < l.k → get_or l.words k 0 ≡ g.R.WordRow.word (l.fn.lane + k) l.row)

use Rattle.std.proofs.Common.{◌≡◌, length, get_or}
use Rattle.p3_kernels.specs.Words.{AreBelow, AreReduced}
use Rattle.p3_kernels.proofs.row_products.residues_of_sums.Given as goal

abbrev pub invariant-loop-k : goal.invariant-loop-k
invariant-loop-k g l =
    (length l.words ≡ g.row.N) × AreBelow l.k l.fn.order l.words × AreReduced l.k l.fn.order (λ k. get_or l.totals k 0) l.words

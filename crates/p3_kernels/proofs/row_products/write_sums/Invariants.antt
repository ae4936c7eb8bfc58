use Rattle.std.proofs.Common.{◌≡◌, ◌<◌, ◌+◌, ◌*◌, ℕ, length, get_or}
use Rattle.p3_kernels.specs.ProductSums.{sum_at}
use Rattle.p3_kernels.proofs.StoredBlocks.{Hold}
use Rattle.p3_kernels.proofs.row_products.write_sums.Given as goal

abbrev pub invariant-loop-k : goal.invariant-loop-k
invariant-loop-k g l =
    let lane = l.fn.lane in
    (length l.totals ≡ length l.initial.totals)
    × ((number : ℕ → ℕ) → ((j : ℕ) → j < lane → get_or l.initial.totals j 0 ≡ number j)
    → ((k : ℕ) → k < g.row.H → sum_at l.fn.sums.even_low l.fn.sums.even_high k ≡ number (lane + 2 * k))
    → ((k : ℕ) → k < g.row.H → sum_at l.fn.sums.odd_low l.fn.sums.odd_high k ≡ number (lane + 2 * k + 1))
    → Hold (λ j w. w ≡ number j) l.totals (lane + 2 * l.k))

use Rattle.std.proofs.Common.{◌≡◌, ◌<◌, ◌≤◌, ◌+◌, ◌*◌, ℕ, drop, length, get_or}
use Rattle.p3_theory.specs.ResidueRings.SumsOfProducts.{sum_of_products}
use Rattle.p3_kernels.specs.Residues.{AreResidues, IsResidue}
use Rattle.p3_kernels.proofs.StoredBlocks.{Hold}
use Rattle.p3_kernels.proofs.small_row_products.write_small_lanes.Given as goal

abbrev pub invariant-loop-step : goal.invariant-loop-step
invariant-loop-step g l =
    let word = g.R.WordRow.word in
    ((k : ℕ) → k < g.row.L → get_or l.sums k 0 ≤ 4 * l.step * 65025)
    × ((k : ℕ) → k < g.row.L → get_or l.sums k 0 + sum_of_products (word (l.lane + k)) (drop (4 * l.step) l.u) (drop (4 * l.step) l.v) ≡ sum_of_products (word (l.lane + k)) l.u l.v)

abbrev pub invariant-loop-i : goal.invariant-loop-i
invariant-loop-i g l =
    let word = g.R.WordRow.word in
    ((k : ℕ) → k < g.row.L → get_or l.sums k 0 ≤ l.i * 65025)
    × ((k : ℕ) → k < g.row.L → get_or l.sums k 0 + sum_of_products (word (l.lane + k)) (drop l.i l.u) (drop l.i l.v) ≡ sum_of_products (word (l.lane + k)) l.u l.v)

abbrev pub invariant-loop-k : goal.invariant-loop-k
invariant-loop-k g l =
    let number : ℕ → ℕ = λ k. sum_of_products (g.R.WordRow.word k) l.u l.v in
    (length l.words ≡ g.row.N)
    × (AreResidues l.fn.lane l.fn.order number l.initial.words → Hold (IsResidue l.fn.order number) l.words (l.fn.lane + l.k))

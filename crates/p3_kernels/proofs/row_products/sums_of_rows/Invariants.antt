use Rattle.std.proofs.Common.{◌≡◌, ◌*◌, length}
use Rattle.p3_theory.specs.ResidueRings.SumsOfProducts.{sum_of_products}
use Rattle.p3_kernels.proofs.StoredBlocks.{Hold}
use Rattle.p3_kernels.proofs.row_products.sums_of_rows.Given as goal

abbrev pub invariant-loop-block : goal.invariant-loop-block
invariant-loop-block g l =
    (length l.totals ≡ g.row.N) × Hold (λ j w. w ≡ sum_of_products (g.R.WordRow.word j) l.u l.v) l.totals (8 * l.block)

use Rattle.std.proofs.Common.{◌≡◌, ◌*◌, length}
use Rattle.p3_theory.specs.ResidueRings.SumsOfProducts.{sum_of_products}
use Rattle.p3_kernels.specs.Residues.{AreResidues}
use Rattle.p3_kernels.proofs.small_row_products.small_sums_of_rows.Given as goal

abbrev pub invariant-loop-block : goal.invariant-loop-block
invariant-loop-block g l =
    (length l.words ≡ g.row.N) × AreResidues (8 * l.block) l.fn.order (λ k. sum_of_products (g.R.WordRow.word k) l.u l.v) l.words

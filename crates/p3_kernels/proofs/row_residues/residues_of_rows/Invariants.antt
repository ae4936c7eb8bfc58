use Rattle.std.proofs.Common.{◌≡◌, ◌*◌, length}
use Rattle.p3_theory.specs.ResidueRings.SumsOfProducts.{sum_of_products}
use Rattle.p3_kernels.specs.Words.{AreBelow, AreReduced}
use Rattle.p3_kernels.proofs.row_residues.residues_of_rows.Given as goal

abbrev pub invariant-loop-block : goal.invariant-loop-block
invariant-loop-block g l =
    (length l.words ≡ g.row.N) × AreBelow (8 * l.block) l.order l.words
    × AreReduced (8 * l.block) l.order (λ j. sum_of_products (g.R.WordRow.word j) l.u l.v) l.words

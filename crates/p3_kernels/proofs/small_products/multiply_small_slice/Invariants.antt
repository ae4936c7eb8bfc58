use Rattle.std.proofs.Common.{◌≡◌, ◌+◌, ◌*◌, length}
use Rattle.p3_kernels.proofs.StoredBlocks.{Hold, Unchanged}
use Rattle.p3_kernels.specs.Residues.{IsResidue}
use Rattle.p3_kernels.specs.Words.{product_at}
use Rattle.p3_kernels.proofs.small_products.multiply_small_slice.Given as goal

abbrev pub invariant-loop-block : goal.invariant-loop-block
invariant-loop-block l =
    (length l.words ≡ length l.fn.words) × Hold (IsResidue l.order (product_at l.fn.words l.factors)) l.words (8 * l.block) × Unchanged l.fn.words l.words (8 * l.block)

abbrev pub invariant-loop-four : goal.invariant-loop-four
invariant-loop-four l =
    (length l.words ≡ length l.fn.words) × Hold (IsResidue l.order (product_at l.fn.words l.factors)) l.words (l.start + 4 * l.four) × Unchanged l.fn.words l.words (l.start + 4 * l.four)

abbrev pub invariant-loop-i : goal.invariant-loop-i
invariant-loop-i l = (length l.words ≡ length l.fn.words) × Hold (IsResidue l.order (product_at l.fn.words l.factors)) l.words l.i × Unchanged l.fn.words l.words l.i

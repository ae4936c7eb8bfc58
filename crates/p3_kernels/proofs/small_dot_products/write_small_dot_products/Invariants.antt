use Rattle.std.proofs.Common.{◌≡◌, ◌+◌, ◌*◌, length}
use Rattle.p3_kernels.proofs.StoredBlocks.{Hold}
use Rattle.p3_kernels.specs.Words.{dot_at, rows_of}
use Rattle.p3_kernels.specs.Residues.{IsResidue}
use Rattle.p3_kernels.proofs.small_dot_products.write_small_dot_products.Given as goal

abbrev pub invariant-loop-block : goal.invariant-loop-block
invariant-loop-block l =
    (length l.out ≡ length l.fn.out) × Hold (IsResidue l.order (dot_at (rows_of l.left) (rows_of l.right))) l.out (8 * l.block)

abbrev pub invariant-loop-four : goal.invariant-loop-four
invariant-loop-four l =
    (length l.out ≡ length l.fn.out) × Hold (IsResidue l.order (dot_at (rows_of l.left) (rows_of l.right))) l.out (l.start + 4 * l.four)

abbrev pub invariant-loop-i : goal.invariant-loop-i
invariant-loop-i l = (length l.out ≡ length l.fn.out) × Hold (IsResidue l.order (dot_at (rows_of l.left) (rows_of l.right))) l.out l.i

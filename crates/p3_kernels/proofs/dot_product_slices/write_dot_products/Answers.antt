use Rattle.std.proofs.Common.{arith, ◌≡◌, ◌+◌, ◌*◌, ◌/◌, ◌≤◌, ◌∙◌, length, subst, sym}
use Rattle.std.proofs.lemmas.List.{length-set}
use Rattle.std.proofs.lemmas.Simd.{length-put_chunk}
use Rattle.p3_kernels.proofs.Rows.{blocks-below, dot-of_blocks, words-below}
use Rattle.p3_kernels.proofs.StoredBlocks.{Hold, IsReduced, block-stored, reduced-block, word-stored}
use Rattle.p3_kernels.specs.Words.{RowsAreBelow, dot_at, rows_of}
use lib.Lanes.{put_chunk}
use Rattle.p3_kernels.proofs.dot_product_slices.write_dot_products.Goals as goal

pub montgomery_dot_products_8-sums-requires-clause-left : goal.montgomery_dot_products_8-sums-requires-clause-left
montgomery_dot_products_8-sums-requires-clause-left c =
    subst (RowsAreBelow 8 c.args.order) (sym c.load_rows_8-x.ensures)
    (blocks-below (8 * c.loop-block.block) 8 c.args.order (length c.args.out.now) (omega arith) (rows_of c.args.left) c.requires.left)

pub montgomery_dot_products_8-sums-requires-clause-right : goal.montgomery_dot_products_8-sums-requires-clause-right
montgomery_dot_products_8-sums-requires-clause-right c =
    subst (RowsAreBelow 8 c.args.order) (sym c.load_rows_8-y.ensures)
    (blocks-below (8 * c.loop-block.block) 8 c.args.order (length c.args.out.now) (omega arith) (rows_of c.args.right) c.requires.right)

pub loop-block-preserved : goal.loop-block-preserved
loop-block-preserved c =
    let p = c.args.order in
    let left = c.args.left in
    let right = c.args.right in
    let number = dot_at (rows_of c.args.left) (rows_of c.args.right) in
    let vs = c.loop-block.out in
    let i = 8 * c.loop-block.block in
    let zs = c.montgomery_dot_products_8-sums.result in
    let held = c.loop-block.invariant in
    let said = c.montgomery_dot_products_8-sums.ensures in
    let room : 8 * c.loop-block.block + 8 ≤ length c.loop-block.out = omega arith in
    let next : 8 * c.loop-block.block + 8 ≡ 8 * (c.loop-block.block + 1) = omega arith in (
      length-put_chunk i vs zs ∙ held.0,
      subst (Hold (IsReduced p number) (put_chunk i vs zs)) next
          (block-stored (IsReduced p number) i 8 vs zs said.width room held.1
          (reduced-block p i 8 number (dot_at c.load_rows_8-x.result c.load_rows_8-y.result) zs said.below said.value
          (λ k l. (λ ι. dot_at (c.load_rows_8-x.ensures ι) (c.load_rows_8-y.ensures ι) k) ∙ dot-of_blocks i 8 k l (rows_of left) (rows_of right)))),
    )

pub montgomery_dot_products_4-last_sums-requires-clause-left : goal.montgomery_dot_products_4-last_sums-requires-clause-left
montgomery_dot_products_4-last_sums-requires-clause-left c =
    subst (RowsAreBelow 4 c.args.order) (sym c.load_rows_4-x.ensures)
    (blocks-below (8 * (length c.args.out.now / 8) + 4 * c.loop-four.four) 4 c.args.order (length c.args.out.now) (omega arith) (rows_of c.args.left) c.requires.left)

pub montgomery_dot_products_4-last_sums-requires-clause-right : goal.montgomery_dot_products_4-last_sums-requires-clause-right
montgomery_dot_products_4-last_sums-requires-clause-right c =
    subst (RowsAreBelow 4 c.args.order) (sym c.load_rows_4-y.ensures)
    (blocks-below (8 * (length c.args.out.now / 8) + 4 * c.loop-four.four) 4 c.args.order (length c.args.out.now) (omega arith) (rows_of c.args.right) c.requires.right)

pub loop-four-preserved : goal.loop-four-preserved
loop-four-preserved c =
    let p = c.args.order in
    let left = c.args.left in
    let right = c.args.right in
    let number = dot_at (rows_of c.args.left) (rows_of c.args.right) in
    let vs = c.loop-four.out in
    let i = 8 * (length c.args.out.now / 8) + 4 * c.loop-four.four in
    let zs = c.montgomery_dot_products_4-last_sums.result in
    let held = c.loop-four.invariant in
    let said = c.montgomery_dot_products_4-last_sums.ensures in
    let room : 8 * (length c.args.out.now / 8) + 4 * c.loop-four.four + 4 ≤ length c.loop-four.out = omega arith in
    let next : 8 * (length c.args.out.now / 8) + 4 * c.loop-four.four + 4 ≡ 8 * (length c.args.out.now / 8) + 4 * (c.loop-four.four + 1) = omega arith in (
      length-put_chunk i vs zs ∙ held.0,
      subst (Hold (IsReduced p number) (put_chunk i vs zs)) next
          (block-stored (IsReduced p number) i 4 vs zs said.width room held.1
          (reduced-block p i 4 number (dot_at c.load_rows_4-x.result c.load_rows_4-y.result) zs said.below said.value
          (λ k l. (λ ι. dot_at (c.load_rows_4-x.ensures ι) (c.load_rows_4-y.ensures ι) k) ∙ dot-of_blocks i 4 k l (rows_of left) (rows_of right)))),
    )

pub dot_product_at-sum-requires-clause-left : goal.dot_product_at-sum-requires-clause-left
dot_product_at-sum-requires-clause-left c = words-below c.args.order (length c.args.out.now) c.loop-i.i (omega arith) c.args.left c.requires.left

pub dot_product_at-sum-requires-clause-right : goal.dot_product_at-sum-requires-clause-right
dot_product_at-sum-requires-clause-right c = words-below c.args.order (length c.args.out.now) c.loop-i.i (omega arith) c.args.right c.requires.right

pub loop-i-preserved : goal.loop-i-preserved
loop-i-preserved c =
    let p = c.args.order in
    let number = dot_at (rows_of c.args.left) (rows_of c.args.right) in
    let v = c.dot_product_at-sum.result in
    let held = c.loop-i.invariant in
    let said = c.dot_product_at-sum.ensures in (
      length-set c.loop-i.out c.loop-i.i v ∙ held.0,
      word-stored (IsReduced p number) c.loop-i.i v c.loop-i.out (omega arith) held.1 (said.below, said.value),
    )

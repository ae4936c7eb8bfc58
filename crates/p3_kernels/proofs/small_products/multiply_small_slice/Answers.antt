use Rattle.std.proofs.Common.{arith, get_or, ◌≡◌, ◌+◌, ◌*◌, ◌/◌, ◌%◌, ◌<◌, ◌≤◌, ◌∙◌, ap, length, subst, sym}
use Rattle.std.proofs.lemmas.List.{length-set}
use Rattle.std.proofs.lemmas.Simd.{length-put_chunk}
use Rattle.p3_kernels.proofs.SmallProducts.{product_short}
use Rattle.p3_kernels.proofs.StoredBlocks.{Hold, Unchanged, block-below, block-stored, block-unchanged, loaded-below, loaded-products, word-stored, word-unchanged}
use Rattle.p3_kernels.specs.Residues.{IsResidue}
use Rattle.p3_kernels.specs.Words.{product_at}
use lib.Lanes.{put_chunk}
use Rattle.p3_kernels.proofs.small_products.multiply_small_slice.Goals as goal

pub small_products_8-products-requires-clause-left : goal.small_products_8-products-requires-clause-left
small_products_8-products-requires-clause-left c =
    loaded-below c.args.order (8 * c.loop-block.block) 8 c.args.words.now c.loop-block.words (omega arith) c.loop-block.invariant.2 c.requires.left

pub small_products_8-products-requires-clause-right : goal.small_products_8-products-requires-clause-right
small_products_8-products-requires-clause-right c = block-below c.args.order (8 * c.loop-block.block) 8 (length c.args.words.now) c.args.factors.now (omega arith) c.requires.right

pub loop-block-preserved : goal.loop-block-preserved
loop-block-preserved c =
    let p = c.args.order in
    let ws = c.args.words.now in
    let number = product_at c.args.words.now c.args.factors.now in
    let vs = c.loop-block.words in
    let i = 8 * c.loop-block.block in
    let zs = c.small_products_8-products.result in
    let held = c.loop-block.invariant in
    let said = c.small_products_8-products.ensures in
    let room : 8 * c.loop-block.block + 8 ≤ length c.loop-block.words = omega arith in
    let next : 8 * c.loop-block.block + 8 ≡ 8 * (c.loop-block.block + 1) = omega arith in (
      length-put_chunk i vs zs ∙ held.0,
      subst (Hold (IsResidue p number) (put_chunk i vs zs)) next
          (block-stored (IsResidue p number) i 8 vs zs said.width room held.1 (λ k l. said.value k l ∙ ap (λ z. z % p) (loaded-products i 8 ws vs c.args.factors.now held.2 k l))),
      subst (Unchanged ws (put_chunk i vs zs)) next (block-unchanged i 8 ws vs zs said.width held.2),
    )

pub small_products_4-last_products-requires-clause-left : goal.small_products_4-last_products-requires-clause-left
small_products_4-last_products-requires-clause-left c =
    loaded-below c.args.order (8 * (length c.args.words.now / 8) + 4 * c.loop-four.four) 4 c.args.words.now c.loop-four.words (omega arith) c.loop-four.invariant.2 c.requires.left

pub small_products_4-last_products-requires-clause-right : goal.small_products_4-last_products-requires-clause-right
small_products_4-last_products-requires-clause-right c = block-below c.args.order (8 * (length c.args.words.now / 8) + 4 * c.loop-four.four) 4 (length c.args.words.now) c.args.factors.now (omega arith) c.requires.right

pub loop-four-preserved : goal.loop-four-preserved
loop-four-preserved c =
    let p = c.args.order in
    let ws = c.args.words.now in
    let number = product_at c.args.words.now c.args.factors.now in
    let vs = c.loop-four.words in
    let i = 8 * (length c.args.words.now / 8) + 4 * c.loop-four.four in
    let zs = c.small_products_4-last_products.result in
    let held = c.loop-four.invariant in
    let said = c.small_products_4-last_products.ensures in
    let room : 8 * (length c.args.words.now / 8) + 4 * c.loop-four.four + 4 ≤ length c.loop-four.words = omega arith in
    let next : 8 * (length c.args.words.now / 8) + 4 * c.loop-four.four + 4 ≡ 8 * (length c.args.words.now / 8) + 4 * (c.loop-four.four + 1) = omega arith in (
      length-put_chunk i vs zs ∙ held.0,
      subst (Hold (IsResidue p number) (put_chunk i vs zs)) next
          (block-stored (IsResidue p number) i 4 vs zs said.width room held.1 (λ k l. said.value k l ∙ ap (λ z. z % p) (loaded-products i 4 ws vs c.args.factors.now held.2 k l))),
      subst (Unchanged ws (put_chunk i vs zs)) next (block-unchanged i 4 ws vs zs said.width held.2),
    )

pub overflow_mul-product : goal.overflow_mul-product
overflow_mul-product c =
    let i = c.loop-i.i in
    let same = c.loop-i.invariant.2 i (omega arith) in
    let a = subst (λ z. z < c.args.order) (sym same) (c.requires.left i (omega arith)) in
    let short = product_short c.args.order (get_or c.loop-i.words i 0) (get_or c.args.factors.now i 0) c.requires.fits a (c.requires.right i (omega arith)) in
    record { fits = omega (arith, short) }

pub loop-i-preserved : goal.loop-i-preserved
loop-i-preserved c =
    let p = c.args.order in
    let i = c.loop-i.i in
    let number = product_at c.args.words.now c.args.factors.now in
    let held = c.loop-i.invariant in
    let v = (get_or c.loop-i.words i 0 * get_or c.args.factors.now i 0) % p in (
      length-set c.loop-i.words i v ∙ held.0,
      word-stored (IsResidue p number) i v c.loop-i.words (omega arith) held.1 (ap (λ z. (z * get_or c.args.factors.now i 0) % p) (held.2 i (omega arith))),
      word-unchanged i v c.args.words.now c.loop-i.words held.2,
    )

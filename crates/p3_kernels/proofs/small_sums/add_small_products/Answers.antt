use Rattle.std.proofs.Common.{arith, length, ◌≡◌, ◌+◌, ◌∙◌, ap, rules, w32}
use Rattle.std.specs.Simd.Lanes.{sum_l}
use Rattle.std.proofs.lemmas.Simd.{adds_fit}
use Rattle.p3_kernels.proofs.SmallSums.{both_added, first_added, halves_sum, last_below}
use Rattle.p3_kernels.proofs.StoredBlocks.{block-below}
use lib.Lanes.{zip2}
use Rattle.p3_kernels.proofs.small_sums.add_small_products.Goals as goal

pub whole_products_8-first-requires-clause-left : goal.whole_products_8-first-requires-clause-left
whole_products_8-first-requires-clause-left c = block-below 256 0 8 16 c.args.left.now (omega arith) c.requires.left

pub whole_products_8-first-requires-clause-right : goal.whole_products_8-first-requires-clause-right
whole_products_8-first-requires-clause-right c = block-below 256 0 8 16 c.args.right.now (omega arith) c.requires.right

pub whole_products_8-last-requires-clause-left : goal.whole_products_8-last-requires-clause-left
whole_products_8-last-requires-clause-left c = last_below 256 c.args.left.now (search rules) c.requires.left

pub whole_products_8-last-requires-clause-right : goal.whole_products_8-last-requires-clause-right
whole_products_8-last-requires-clause-right c = last_below 256 c.args.right.now (search rules) c.requires.right

pub overflow_add-result : goal.overflow_add-result
overflow_add-result c =
    let left : length c.args.left.now ≡ 16 = search rules in
    let right : length c.args.right.now ≡ 16 = search rules in
    let first = c.whole_products_8-first in
    let last = c.whole_products_8-last in
    let all = halves_sum c.args.left.now c.args.right.now first.result last.result left right first.ensures.width last.ensures.width first.ensures.lanes last.ensures.lanes in
    adds_fit w32 c.args.sums first.result (omega (arith, all, c.requires.room))

pub overflow_add-result-2 : goal.overflow_add-result-2
overflow_add-result-2 c =
    let left : length c.args.left.now ≡ 16 = search rules in
    let right : length c.args.right.now ≡ 16 = search rules in
    let first = c.whole_products_8-first in
    let last = c.whole_products_8-last in
    let all = halves_sum c.args.left.now c.args.right.now first.result last.result left right first.ensures.width last.ensures.width first.ensures.lanes last.ensures.lanes in
    let one = first_added c.args.sums first.result last.result c.fits-sums.0 first.ensures.width last.ensures.width in
    adds_fit w32 (zip2 (λ x y. x + y) c.args.sums first.result) last.result (omega (arith, all, one, c.requires.room))

pub returns : goal.returns
returns c =
    let left : length c.args.left.now ≡ 16 = search rules in
    let right : length c.args.right.now ≡ 16 = search rules in
    let first = c.whole_products_8-first in
    let last = c.whole_products_8-last in
    both_added c.args.sums first.result last.result c.fits-sums.0 first.ensures.width last.ensures.width
    ∙ ap (λ s. sum_l c.args.sums + s) (halves_sum c.args.left.now c.args.right.now first.result last.result left right first.ensures.width last.ensures.width first.ensures.lanes last.ensures.lanes)

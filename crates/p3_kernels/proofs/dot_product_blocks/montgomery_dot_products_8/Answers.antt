use Rattle.std.proofs.Common.{get_or, ◌≡◌, ◌+◌, ◌*◌, ◌%◌, ◌^◌, [], length, ◌∙◌, ap, rules}
use Rattle.p3_kernels.proofs.HalfLanes.{by_halves}
use Rattle.p3_kernels.proofs.Rows.{four_products}
use Rattle.p3_kernels.specs.Words.{dot_at}
use Rattle.p3_kernels.proofs.dot_product_blocks.montgomery_dot_products_8.Goals as goal

pub returns-clause-value : goal.returns-clause-value
returns-clause-value c =
    let p = c.args.order in
    let four_left : length c.args.left ≡ 4 = search rules in
    let four_right : length c.args.right ≡ 4 = search rules in
    by_halves 4 (λ k. (get_or c.reduce_short_sums_8.result k 0 * 2 ^ 32) % c.args.order ≡ dot_at c.args.left c.args.right k % c.args.order)
    (λ k l. c.reduce_short_sums_8.ensures.even k l ∙ ap (λ z. z % p) (c.sums_of_four-even.ensures.lanes k l
    ∙ (λ ι. c.wide_products_8-first.ensures.even k l ι + c.wide_products_8-second.ensures.even k l ι + (c.wide_products_8-third.ensures.even k l ι + c.wide_products_8-fourth.ensures.even k l ι))
    ∙ four_products (λ row. get_or row (2 * k) 0) [] c.args.left c.args.right four_left four_right))
    (λ k l. c.reduce_short_sums_8.ensures.odd k l ∙ ap (λ z. z % p) (c.sums_of_four-odd.ensures.lanes k l
    ∙ (λ ι. c.wide_products_8-first.ensures.odd k l ι + c.wide_products_8-second.ensures.odd k l ι + (c.wide_products_8-third.ensures.odd k l ι + c.wide_products_8-fourth.ensures.odd k l ι))
    ∙ four_products (λ row. get_or row (2 * k + 1) 0) [] c.args.left c.args.right four_left four_right))

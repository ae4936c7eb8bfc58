use Rattle.std.proofs.Common.{get_or, ◌∙◌, ◌+◌, ◌/◌, ◌%◌, ◌^◌, ap}
use Rattle.p3_kernels.proofs.ProductSums.{sum_added, total_added}
use Rattle.p3_kernels.specs.ProductSums.{total}
use Rattle.p3_kernels.proofs.product_sums.add_products.Goals as goal

pub returns-clause-value : goal.returns-clause-value
returns-clause-value c =
    let sums = c.lanes_of_products-sums.result in
    let lows = c.add_low_words-lows in
    let highs = c.add_high_words-highs in
    total_added c.args.low c.args.high lows.result highs.result sums
    (sum_added c.args.low lows.result (λ k. get_or sums k 0 % 2 ^ 32) lows.ensures.value)
    (sum_added c.args.high highs.result (λ k. get_or sums k 0 / 2 ^ 32) highs.ensures.value)
    ∙ ap (λ s. total c.args.low c.args.high + s) c.lanes_of_products-sums.ensures.value

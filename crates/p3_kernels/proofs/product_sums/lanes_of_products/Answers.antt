use Rattle.std.proofs.Common.{arith}
use Rattle.p3_kernels.proofs.ProductSums.{products_in_lanes, products_short, sums_short}
use Rattle.p3_kernels.proofs.product_sums.lanes_of_products.Goals as goal

pub sums_of_four-requires : goal.sums_of_four-requires
sums_of_four-requires c =
    let first = c.wide_products_8-first in
    let last = c.wide_products_8-last in
    let short = products_short c.args.left.now c.args.right.now first.result.0 first.result.1 last.result.0 last.result.1
    first.ensures.even first.ensures.odd last.ensures.even last.ensures.odd c.requires.left c.requires.right in
    (omega arith, (short.0, (short.1, (short.2, short.3))))

pub returns-clause-below : goal.returns-clause-below
returns-clause-below c =
    let first = c.wide_products_8-first in
    let last = c.wide_products_8-last in
    sums_short c.args.left.now c.args.right.now first.result.0 first.result.1 last.result.0 last.result.1 first.ensures.even first.ensures.odd last.ensures.even last.ensures.odd
    c.sums_of_four.result c.sums_of_four.ensures.lanes c.requires.left c.requires.right

pub returns-clause-value : goal.returns-clause-value
returns-clause-value c =
    let first = c.wide_products_8-first in
    let last = c.wide_products_8-last in
    products_in_lanes c.args.left.now c.args.right.now first.result.0 first.result.1 last.result.0 last.result.1 first.ensures.even first.ensures.odd last.ensures.even last.ensures.odd
    c.sums_of_four.result c.sums_of_four.ensures.lanes c.requires.lengths.0 c.requires.lengths.1

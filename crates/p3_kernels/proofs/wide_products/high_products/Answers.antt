use Rattle.std.proofs.Common.{get_or, ◌/◌, ◌^◌, arith, w64}
use Rattle.std.proofs.lemmas.Simd.{below_from_Fits}
use Rattle.p3_kernels.proofs.LaneOperations.{all_below, width2}
use Rattle.p3_kernels.proofs.LongLanes.{product_lane, times}
use Rattle.p3_kernels.proofs.wide_products.high_products.Goals as goal

pub returns-clause-width : goal.returns-clause-width
returns-clause-width g c = width2 times g.row.H c.high_words-x.result c.high_words-y.result c.high_words-x.ensures.width c.high_words-y.ensures.width

pub returns-clause-lanes : goal.returns-clause-lanes
returns-clause-lanes g c =
    product_lane g.row.H c.high_words-x.result c.high_words-y.result c.high_words-x.ensures.width c.high_words-y.ensures.width
    (λ k. get_or c.args.left k 0 / 2 ^ 32) (λ k. get_or c.args.right k 0 / 2 ^ 32) c.high_words-x.ensures.lanes c.high_words-y.ensures.lanes
    (λ k. let f = all_below 64 c.args.left (below_from_Fits w64 c.args.left c.fits-left.1) k in omega (arith, f))
    (λ k. let f = all_below 64 c.args.right (below_from_Fits w64 c.args.right c.fits-right.1) k in omega (arith, f))

use Rattle.std.proofs.Common.{get_or, ◌%◌, ◌^◌, arith}
use Rattle.std.proofs.Math.Nat.{mod-lt}
use Rattle.p3_kernels.proofs.LaneOperations.{width2}
use Rattle.p3_kernels.proofs.LongLanes.{product_lane, times}
use Rattle.p3_kernels.proofs.wide_products.low_products.Goals as goal

pub returns-clause-width : goal.returns-clause-width
returns-clause-width g c = width2 times g.row.H c.low_words-x.result c.low_words-y.result c.low_words-x.ensures.width c.low_words-y.ensures.width

pub returns-clause-lanes : goal.returns-clause-lanes
returns-clause-lanes g c =
    product_lane g.row.H c.low_words-x.result c.low_words-y.result c.low_words-x.ensures.width c.low_words-y.ensures.width
    (λ k. get_or c.args.left k 0 % 2 ^ 32) (λ k. get_or c.args.right k 0 % 2 ^ 32) c.low_words-x.ensures.lanes c.low_words-y.ensures.lanes
    (λ k. mod-lt (get_or c.args.left k 0) (omega arith)) (λ k. mod-lt (get_or c.args.right k 0) (omega arith))

use Rattle.std.proofs.Common.{get_or, ◌%◌, ◌^◌}
use Rattle.p3_kernels.proofs.LaneOperations.{width2}
use Rattle.p3_kernels.proofs.LongLanes.{plus}
use Rattle.p3_kernels.proofs.ProductSums.{added_step, low_fits}
use Rattle.p3_kernels.proofs.product_sums.add_low_words.Goals as goal

pub returns-clause-width : goal.returns-clause-width
returns-clause-width g c = width2 plus g.row.H c.args.sums c.low_words-words.result c.fits-sums.0 c.low_words-words.ensures.width

pub returns-clause-step : goal.returns-clause-step
returns-clause-step g c =
    added_step g.row.H c.args.sums c.low_words-words.result c.fits-sums.0 c.low_words-words.ensures.width c.requires.room
    (λ k. get_or c.args.numbers k 0 % 2 ^ 32) c.low_words-words.ensures.lanes (low_fits g.row.H c.args.numbers)

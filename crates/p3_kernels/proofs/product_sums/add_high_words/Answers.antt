use Rattle.std.proofs.Common.{get_or, ◌/◌, ◌^◌, w64}
use Rattle.std.proofs.lemmas.Simd.{below_from_Fits}
use Rattle.p3_kernels.proofs.LaneOperations.{all_below, width2}
use Rattle.p3_kernels.proofs.LongLanes.{plus}
use Rattle.p3_kernels.proofs.ProductSums.{added_step, high_fits}
use Rattle.p3_kernels.proofs.product_sums.add_high_words.Goals as goal

pub returns-clause-width : goal.returns-clause-width
returns-clause-width g c = width2 plus g.row.H c.args.sums c.high_words-words.result c.fits-sums.0 c.high_words-words.ensures.width

pub returns-clause-step : goal.returns-clause-step
returns-clause-step g c =
    added_step g.row.H c.args.sums c.high_words-words.result c.fits-sums.0 c.high_words-words.ensures.width c.requires.room
    (λ k. get_or c.args.numbers k 0 / 2 ^ 32) c.high_words-words.ensures.lanes
    (high_fits g.row.H c.args.numbers (all_below 64 c.args.numbers (below_from_Fits w64 c.args.numbers c.fits-numbers.1)))

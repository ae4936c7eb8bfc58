use Rattle.std.proofs.Common.{arith, w16, w32}
use Rattle.std.proofs.lemmas.Simd.{below_from_Fits, shifts_fit_splat, widens}
use Rattle.p3_kernels.proofs.LaneOperations.{all_below}
use Rattle.p3_kernels.proofs.ShortRemainders.{highs_fit, narrowed_lane, narrowed_width}
use Rattle.p3_kernels.proofs.short_remainders.high_short_products.Goals as goal

pub overflow_cast-wide : goal.overflow_cast-wide
overflow_cast-wide g c = widens w16 w32 (omega arith) c.args.words c.fits-words.1

pub overflow_shr-high : goal.overflow_shr-high
overflow_shr-high g c = shifts_fit_splat 32 _ g.row.N 16 (omega arith)

pub overflow_cast-result : goal.overflow_cast-result
overflow_cast-result g c = highs_fit g.row.N c.args.factor c.args.words c.fits-words.0 (all_below 16 c.args.words (below_from_Fits w16 c.args.words c.fits-words.1)) (omega arith)

pub returns-clause-width : goal.returns-clause-width
returns-clause-width g c = narrowed_width g.row.N c.args.factor c.args.words c.fits-words.0 (all_below 16 c.args.words (below_from_Fits w16 c.args.words c.fits-words.1)) (omega arith)

pub returns-clause-lanes : goal.returns-clause-lanes
returns-clause-lanes g c = narrowed_lane g.row.N c.args.factor c.args.words c.fits-words.0 (all_below 16 c.args.words (below_from_Fits w16 c.args.words c.fits-words.1)) (omega arith)

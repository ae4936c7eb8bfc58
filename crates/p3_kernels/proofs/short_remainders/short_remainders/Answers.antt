use Rattle.std.proofs.Common.{get_or, ℕ, ◌<◌, arith}
use Rattle.std.proofs.lemmas.Simd.{Each1-all, Each2-splat}
use Rattle.p3_theory.specs.ResidueRings.Reciprocals.{products_short}
use Rattle.p3_kernels.proofs.LaneOperations.{lane_by, width_by}
use Rattle.p3_kernels.proofs.ShortRemainders.{remainder}
use Rattle.p3_kernels.proofs.short_remainders.short_remainders.Goals as goal

pub remainders_by_reciprocal-requires : goal.remainders_by_reciprocal-requires
remainders_by_reciprocal-requires g c = (omega arith, (c.requires.some, λ k l. products_short c.args.order c.args.most (get_or c.args.numbers k 0) (c.requires.most k l) c.if-most-order.true))

pub nonzero_rem-result : goal.nonzero_rem-result
nonzero_rem-result g c = Each2-splat (λ (a b : ℕ). 0 < b) _ g.row.N c.args.order (Each1-all (λ (a : ℕ). 0 < c.args.order) (λ a. c.requires.some) _)

pub returns-clause-width : goal.returns-clause-width
returns-clause-width g c = width_by remainder g.row.N c.args.order c.args.numbers c.fits-numbers.0

pub returns-clause-lanes : goal.returns-clause-lanes
returns-clause-lanes g c = lane_by remainder g.row.N c.args.order c.args.numbers c.fits-numbers.0

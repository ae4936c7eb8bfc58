use Rattle.std.proofs.Common.{get_or}
use Rattle.p3_kernels.proofs.LaneOperations.{width2}
use Rattle.p3_kernels.proofs.LongLanes.{plus, sum_lane}
use Rattle.p3_kernels.proofs.Reductions.{number_fits}
use Rattle.p3_kernels.specs.Pairs.{multiple}
use Rattle.p3_kernels.proofs.lane_reductions.with_multiples.Goals as goal

pub returns-clause-width : goal.returns-clause-width
returns-clause-width g c = width2 plus g.row.H c.args.numbers c.multiples-ends.result c.fits-numbers.0 c.multiples-ends.ensures.width

pub returns-clause-lanes : goal.returns-clause-lanes
returns-clause-lanes g c k l =
    let w = get_or c.args.numbers k 0 in
    sum_lane g.row.H c.args.numbers c.multiples-ends.result c.fits-numbers.0 c.multiples-ends.ensures.width k l
    (multiple c.args.order c.args.negated w) (c.multiples-ends.ensures.lanes k l) (number_fits c.args.order c.args.negated w c.requires.fits (c.requires.below k l))

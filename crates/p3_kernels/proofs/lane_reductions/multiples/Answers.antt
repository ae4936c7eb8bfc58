use Rattle.p3_kernels.proofs.LongLanes.{multiple_lane, multiple_width}
use Rattle.p3_kernels.proofs.lane_reductions.multiples.Goals as goal

pub returns-clause-width : goal.returns-clause-width
returns-clause-width g c = multiple_width g.row.H c.args.order c.args.inverse c.args.numbers c.fits-numbers.0

pub returns-clause-lanes : goal.returns-clause-lanes
returns-clause-lanes g c = multiple_lane g.row.H c.args.order c.args.inverse c.args.numbers c.fits-numbers.0 c.requires

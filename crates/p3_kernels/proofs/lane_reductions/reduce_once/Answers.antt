use Rattle.p3_kernels.proofs.WordLanes.{reduced_lane, reduced_width}
use Rattle.p3_kernels.proofs.lane_reductions.reduce_once.Goals as goal

pub returns-clause-width : goal.returns-clause-width
returns-clause-width g c = reduced_width g.row.N c.args.order c.args.words c.fits-words.0

pub returns-clause-lanes : goal.returns-clause-lanes
returns-clause-lanes g c = reduced_lane g.row.N c.args.order c.args.words c.fits-words.0 c.requires.fits c.requires.below

use Rattle.p3_kernels.proofs.LaneOperations.{width2}
use Rattle.p3_kernels.proofs.small_row_products.add_lanes.Goals as goal

pub returns-clause-width : goal.returns-clause-width
returns-clause-width g c = width2 _ g.row.L c.args.sums c.args.numbers c.fits-sums.0 c.fits-numbers.0

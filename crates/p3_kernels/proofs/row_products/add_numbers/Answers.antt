use Rattle.p3_kernels.proofs.LaneOperations.{lane2, width2}
use Rattle.p3_kernels.proofs.LongLanes.{plus}
use Rattle.p3_kernels.proofs.row_products.add_numbers.Goals as goal

pub returns-clause-width : goal.returns-clause-width
returns-clause-width g c = width2 plus g.row.H c.args.totals c.args.numbers c.fits-totals.0 c.fits-numbers.0

pub returns-clause-lanes : goal.returns-clause-lanes
returns-clause-lanes g c = lane2 plus g.row.H c.args.totals c.args.numbers c.fits-totals.0 c.fits-numbers.0

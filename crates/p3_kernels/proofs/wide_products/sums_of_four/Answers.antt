use Rattle.p3_kernels.proofs.LongLanes.{four_lane, four_width}
use Rattle.p3_kernels.proofs.wide_products.sums_of_four.Goals as goal

pub returns-clause-width : goal.returns-clause-width
returns-clause-width g c = four_width g.row.H c.args.first c.args.second c.args.third c.args.fourth c.fits-first.0 c.fits-second.0 c.fits-third.0 c.fits-fourth.0

pub returns-clause-lanes : goal.returns-clause-lanes
returns-clause-lanes g c k l =
    four_lane g.row.H c.args.first c.args.second c.args.third c.args.fourth c.fits-first.0 c.fits-second.0 c.fits-third.0 c.fits-fourth.0
    k l (c.requires.first k l) (c.requires.second k l) (c.requires.third k l) (c.requires.fourth k l)

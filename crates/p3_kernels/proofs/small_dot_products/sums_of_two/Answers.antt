use Rattle.p3_kernels.proofs.SmallDotProducts.{two_lane, two_width}
use Rattle.p3_kernels.proofs.small_dot_products.sums_of_two.Goals as goal

pub returns-clause-width : goal.returns-clause-width
returns-clause-width g c = two_width g.row.N c.args.a c.args.e c.args.b c.args.f c.fits-a.0 c.fits-e.0 c.fits-b.0 c.fits-f.0

pub returns-clause-lanes : goal.returns-clause-lanes
returns-clause-lanes g c = two_lane g.row.N c.args.a c.args.e c.args.b c.args.f c.fits-a.0 c.fits-e.0 c.fits-b.0 c.fits-f.0

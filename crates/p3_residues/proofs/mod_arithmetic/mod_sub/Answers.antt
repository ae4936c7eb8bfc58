use Rattle.p3_residues.proofs.ModularLanes.{differences, differences_width}
use Rattle.p3_residues.proofs.mod_arithmetic.mod_sub.Goals as goal

pub returns-clause-width : goal.returns-clause-width
returns-clause-width g c = differences_width c.args.a c.args.b c.args.p g.row.N c.fits-a.0 c.fits-b.0 c.fits-p.0

pub returns-clause-lanes : goal.returns-clause-lanes
returns-clause-lanes g c = differences c.args.a c.args.b c.args.p g.row.N c.fits-a.0 c.fits-b.0 c.fits-p.0 c.requires.order c.requires.left c.requires.right

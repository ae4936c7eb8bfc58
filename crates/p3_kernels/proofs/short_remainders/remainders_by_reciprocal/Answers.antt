use Rattle.p3_kernels.proofs.ShortRemainders.{remainder_at}
use Rattle.p3_kernels.proofs.short_remainders.remainders_by_reciprocal.Goals as goal

pub returns-clause-lanes : goal.returns-clause-lanes
returns-clause-lanes g c =
    remainder_at g.row.N c.args.order c.args.numbers c.high_short_products.result c.fits-numbers.0 c.requires.some c.high_short_products.ensures.lanes c.requires.short

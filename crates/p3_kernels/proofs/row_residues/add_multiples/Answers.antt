use Rattle.std.proofs.Common.{get_or, ◌*◌, ◌∙◌, arith}
use Rattle.p3_kernels.proofs.LaneOperations.{lane_by, width2, width_by}
use Rattle.p3_kernels.proofs.LongLanes.{exact_product, plus, sum_lane, times}
use Rattle.p3_kernels.proofs.SumReductions.{fits_with_product}
use lib.Lanes.{zip2}
use lib.ListN.{replicate}
use Rattle.p3_kernels.proofs.row_residues.add_multiples.Goals as goal

pub returns-clause-width : goal.returns-clause-width
returns-clause-width g c =
    width2 plus g.row.H c.args.sums (zip2 times c.args.words (replicate g.row.H c.args.factor)) c.fits-sums.0 (width_by times g.row.H c.args.factor c.args.words c.fits-words.0)

pub returns-clause-lanes : goal.returns-clause-lanes
returns-clause-lanes g c k l =
    let word = get_or c.args.words k 0 in
    let short = c.requires.words k l in
    let factor = c.requires.factor in
    sum_lane g.row.H c.args.sums (zip2 times c.args.words (replicate g.row.H c.args.factor)) c.fits-sums.0 (width_by times g.row.H c.args.factor c.args.words c.fits-words.0) k l
    (word * c.args.factor)
    (lane_by times g.row.H c.args.factor c.args.words c.fits-words.0 k l ∙ exact_product word c.args.factor (omega (arith, short)) (omega (arith, factor)))
    (fits_with_product (get_or c.args.sums k 0) word c.args.factor (c.requires.few k l) short factor)

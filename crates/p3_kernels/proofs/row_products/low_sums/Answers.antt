use Rattle.std.proofs.Common.{get_or, ◌∙◌, ap, arith}
use Rattle.std.proofs.lemmas.Simd.{shifts_fit_splat}
use Rattle.p3_kernels.proofs.LaneOperations.{lane2, lane_by, width2, width_by}
use Rattle.p3_kernels.proofs.LongLanes.{minus, up}
use lib.Lanes.{zip2}
use lib.ListN.{replicate}
use Rattle.p3_kernels.proofs.row_products.low_sums.Goals as goal

pub overflow_shl-result : goal.overflow_shl-result
overflow_shl-result g c = shifts_fit_splat 64 c.args.highs g.row.H 32 (omega arith)

pub returns-clause-width : goal.returns-clause-width
returns-clause-width g c = width2 minus g.row.H c.args.totals (zip2 up c.args.highs (replicate g.row.H 32)) c.fits-totals.0 (width_by up g.row.H 32 c.args.highs c.fits-highs.0)

pub returns-clause-lanes : goal.returns-clause-lanes
returns-clause-lanes g c k l =
    lane2 minus g.row.H c.args.totals (zip2 up c.args.highs (replicate g.row.H 32)) c.fits-totals.0 (width_by up g.row.H 32 c.args.highs c.fits-highs.0) k l
    ∙ ap (minus (get_or c.args.totals k 0)) (lane_by up g.row.H 32 c.args.highs c.fits-highs.0 k l)

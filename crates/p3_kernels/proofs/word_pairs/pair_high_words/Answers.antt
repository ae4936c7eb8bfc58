use Rattle.std.proofs.Common.{arith, w64}
use Rattle.std.proofs.lemmas.Simd.{below_from_Fits, shifts_fit_splat}
use Rattle.p3_kernels.proofs.LaneOperations.{all_below, width2, width_by}
use Rattle.p3_kernels.proofs.LongLanes.{down, high_lane, plus, up}
use lib.Lanes.{zip2}
use lib.ListN.{replicate}
use Rattle.p3_kernels.proofs.word_pairs.pair_high_words.Goals as goal

pub overflow_shr-low : goal.overflow_shr-low
overflow_shr-low g c = shifts_fit_splat 64 c.args.even g.row.H 32 (omega arith)

pub overflow_shr-high : goal.overflow_shr-high
overflow_shr-high g c = shifts_fit_splat 64 c.args.odd g.row.H 32 (omega arith)

pub overflow_shl-result : goal.overflow_shl-result
overflow_shl-result g c = shifts_fit_splat 64 _ g.row.H 32 (omega arith)

pub returns-clause-width : goal.returns-clause-width
returns-clause-width g c =
    let n = g.row.H in
    let highs = width_by down n 32 c.args.odd c.fits-odd.0 in
    width2 plus n _ _ (width_by down n 32 c.args.even c.fits-even.0) (width_by up n 32 (zip2 down c.args.odd (replicate n 32)) highs)

pub returns-clause-lanes : goal.returns-clause-lanes
returns-clause-lanes g c =
    high_lane g.row.H c.args.even c.args.odd c.fits-even.0 c.fits-odd.0
    (all_below 64 c.args.even (below_from_Fits w64 c.args.even c.fits-even.1)) (all_below 64 c.args.odd (below_from_Fits w64 c.args.odd c.fits-odd.1))

use Rattle.std.proofs.Common.{arith}
use Rattle.std.proofs.lemmas.Simd.{shifts_fit_splat}
use Rattle.p3_kernels.proofs.LaneOperations.{lane_by, width_by}
use Rattle.p3_kernels.proofs.LongLanes.{down}
use Rattle.p3_kernels.proofs.word_pairs.high_words.Goals as goal

pub overflow_shr-result : goal.overflow_shr-result
overflow_shr-result g c = shifts_fit_splat 64 c.args.pairs g.row.H 32 (omega arith)

pub returns-clause-width : goal.returns-clause-width
returns-clause-width g c = width_by down g.row.H 32 c.args.pairs c.fits-pairs.0

pub returns-clause-lanes : goal.returns-clause-lanes
returns-clause-lanes g c = lane_by down g.row.H 32 c.args.pairs c.fits-pairs.0

use Rattle.std.proofs.Common.{get_or, ◌∙◌}
use Rattle.std.proofs.lemmas.Nat.{and_mask}
use Rattle.p3_kernels.proofs.LaneOperations.{lane_by, width_by}
use Rattle.p3_kernels.proofs.LongLanes.{both}
use Rattle.p3_kernels.proofs.word_pairs.low_words.Goals as goal

pub returns-clause-width : goal.returns-clause-width
returns-clause-width g c = width_by both g.row.H 4294967295 c.args.pairs c.fits-pairs.0

pub returns-clause-lanes : goal.returns-clause-lanes
returns-clause-lanes g c k l = lane_by both g.row.H 4294967295 c.args.pairs c.fits-pairs.0 k l ∙ and_mask (get_or c.args.pairs k 0) 32

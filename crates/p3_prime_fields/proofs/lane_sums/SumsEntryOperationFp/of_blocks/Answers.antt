use Rattle.std.proofs.Common.{get_or}
use Rattle.p3_theory.specs.ResidueRings.Residues.{is_of}
use Rattle.p3_prime_fields.specs.Elements.{is}
use Rattle.p3_prime_fields.proofs.lane_sums.SumsEntryOperationFp.of_blocks.Goals as goal

pub returns-clause-lanes : goal.returns-clause-lanes
returns-clause-lanes g c d k h = is_of (is g.W.Form) (get_or c.lane_sums.result k d) _ (c.lane_sums.ensures.lanes d k h)

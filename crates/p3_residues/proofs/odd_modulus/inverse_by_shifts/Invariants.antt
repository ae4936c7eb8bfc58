use Rattle.std.proofs.Common.{◌+◌}
use Rattle.p3_residues.proofs.Shifts.{AreShifted}
use Rattle.p3_residues.proofs.odd_modulus.inverse_by_shifts.Given as goal

abbrev pub invariant-loop-rest : goal.invariant-loop-rest
invariant-loop-rest l = AreShifted l.modulus l.value l.last l.rest l.last_coefficient l.coefficient l.shifts l.negative

abbrev pub decreases-loop-rest : goal.decreases-loop-rest
decreases-loop-rest l = l.last + l.rest

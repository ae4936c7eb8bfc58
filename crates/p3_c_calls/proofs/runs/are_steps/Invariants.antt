use Rattle.std.proofs.Common.{take}
use Rattle.std.specs.Prelude.{All}
use Rattle.p3_c_calls.specs.RunCalls.{IsStep}
use Rattle.p3_c_calls.proofs.runs.are_steps.Given as goal

abbrev pub invariant-loop-i : goal.invariant-loop-i
invariant-loop-i l = All (IsStep l.n) (take l.i l.steps)

use Rattle.std.proofs.Common.{take}
use Rattle.p3_helpers.specs.FieldRuns.{FieldFit}
use Rattle.p3_c_calls.specs.RunCalls.{AreSteps}
use Rattle.p3_c_calls.proofs.runs.decode_all.Given as goal

abbrev pub invariant-loop-i : goal.invariant-loop-i
invariant-loop-i l =
    record {
      steps : AreSteps (take l.i l.steps) l.known.items;
      fit : FieldFit l.n l.known.items;
    }

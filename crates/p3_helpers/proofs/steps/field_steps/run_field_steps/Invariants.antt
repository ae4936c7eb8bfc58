use Rattle.std.proofs.Common.{List, Result, drop}
use Rattle.p3_helpers.specs.FieldRuns.{RunMay}
use Rattle.p3_helpers.specs.declared.steps.field_steps.StepRefused.{StepRefused}
use Rattle.p3_helpers.proofs.steps.field_steps.run_field_steps.Given as goal

-- what the steps that are left may answer, all of them may
abbrev pub invariant-loop-index : goal.invariant-loop-index
invariant-loop-index g l =
    let O = g.F.PrimeCharacteristicRing.ops in
    let size = g.F.Field.size in
    let generator = g.F.Field.generator in
    (result : Result (Unit {0}) StepRefused) (new : List g.row.F.Denot)
    → RunMay O size generator (drop l.index l.steps) l.index l.regs result new → RunMay O size generator l.steps 0 l.initial.regs result new

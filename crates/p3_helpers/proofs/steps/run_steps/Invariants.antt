use Rattle.std.proofs.Common.{◌≡◌, drop}
use Rattle.p3_helpers.specs.Runs.{run}
use Rattle.p3_helpers.proofs.steps.run_steps.Given as goal

abbrev pub invariant-loop-step : goal.invariant-loop-step
invariant-loop-step g l =
    let o = g.R.PrimeCharacteristicRing.ops in
    run o (drop l.step-index l.steps) l.regs ≡ run o l.steps l.initial.regs

use Rattle.std.proofs.Common.{refl, arith, sym}
use Rattle.std.proofs.lemmas.List.{take_all}
use Rattle.std.proofs.lemmas.List.Elements.{All-same, All-more}
use Rattle.p3_c_calls.specs.RunCalls.{IsStep}
use Rattle.p3_c_calls.proofs.runs.are_steps.Goals as goal

pub loop-i-preserved : goal.loop-i-preserved
loop-i-preserved c = All-more (IsStep c.args.n) c.args.steps.now c.loop-i.i _ c.loop-i-test.true c.loop-i.invariant (c.if-not-is_step.ensures.0 refl)

pub returns-then-not-is_step : goal.returns-then-not-is_step
returns-then-not-is_step c = (λ e. absurd (cc e), λ h. c.if-not-is_step.ensures.1 (h c.loop-i.i _ c.loop-i-test.true))

pub returns : goal.returns
returns c =
    let steps = c.args.steps.now in
    (λ _. All-same (IsStep c.args.n) _ _ (sym (take_all c.loop-i.i steps (omega (arith, c.loop-i-test.false)))) c.loop-i.invariant, λ _. refl)

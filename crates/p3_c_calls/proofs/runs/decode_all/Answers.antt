use Rattle.std.proofs.Common.{◌∷◌, [], ◌++◌, Some, map, ap, ap₂, sym, ◌∙◌}
use Rattle.std.proofs.lemmas.List.{map_more, map-append}
use Rattle.std.proofs.lemmas.List.Elements.{All-push, All-same}
use Rattle.p3_helpers.specs.FieldRuns.{FieldStepFits}
use Rattle.p3_c_calls.specs.RunCalls.{decoded}
use Rattle.p3_c_calls.proofs.runs.decode_all.Goals as goal

pub loop-i-preserved : goal.loop-i-preserved
loop-i-preserved c =
    let held = c.loop-i.invariant in
    let steps = c.args.steps.now in
    let i = c.loop-i.i in
    let known = c.loop-i.known.items in
    let t = c.known_step-step.result in
    record {
      steps = map_more decoded steps i _ c.loop-i-test.true ∙ ap₂ (λ ts o. ts ++ o ∷ []) held.steps c.known_step-step.ensures.named ∙ sym (map-append Some known (t ∷ []))
          ∙ ap (map Some) (sym c.in_ok-push.ensures.items);
      fit = All-same (FieldStepFits c.args.n) _ _ c.in_ok-push.ensures.items (All-push (FieldStepFits c.args.n) known t held.fit c.known_step-step.ensures.fits);
    }

use Rattle.std.proofs.Common.{◌≡◌, Some, sym, subst, ◌∙◌}
use Rattle.p3_helpers.specs.FieldRuns.{FieldStepFits}
use Rattle.p3_c_calls.specs.RunCalls.{decoded}
use Rattle.p3_c_calls.proofs.runs.is_step.Goals as goal

pub returns-in-Some : goal.returns-in-Some
returns-in-Some c =
    let known = c.in-Some.known in
    let named : decoded c.args.step.now ≡ Some known = sym c.decode.ensures ∙ c.in-Some.is in (
      λ h. (known, named, c.fits.ensures.0 h),
      λ h.
          let same : h.0 ≡ known = cc (sym h.1 ∙ named) in
          c.fits.ensures.1 (subst (FieldStepFits c.args.n) same h.2),
    )

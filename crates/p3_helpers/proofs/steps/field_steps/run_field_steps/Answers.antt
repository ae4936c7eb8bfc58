use Rattle.std.proofs.Common.{List, Result, Err, ◌≡◌, ◌+◌, suc, drop, arith, inl, inr, subst, sym, refl}
use Rattle.std.proofs.lemmas.List.{drop_more}
use Rattle.p3_helpers.specs.FieldRuns.{RunMay}
use Rattle.p3_helpers.specs.declared.steps.field_steps.FieldStep.{FieldStep}
use Rattle.p3_helpers.specs.declared.steps.field_steps.StepRefused.{StepRefused}
use Rattle.p3_helpers.proofs.steps.field_steps.run_field_steps.Goals as goal

pub returns-in-Err : goal.returns-in-Err
returns-in-Err g c =
    let field = g.F.Field in
    let steps = c.args.steps.now in
    let i = c.loop-index.index in
    let new = c.run_field_step.new.regs in
    let refused : Result (Unit {0}) StepRefused = Err (record { index = i; kind = c.in-Err.kind }) in
    let here = drop_more steps i _ c.loop-index-test.true in
    c.loop-index.invariant refused new
    (subst (λ (rest : List FieldStep). RunMay g.F.PrimeCharacteristicRing.ops field.size field.generator rest i c.loop-index.regs refused new) (sym here)
    (inr (c.in-Err.kind, c.in-Err.ensures, refl)))

pub loop-index-preserved : goal.loop-index-preserved
loop-index-preserved g c = λ result new more.
    let O = g.F.PrimeCharacteristicRing.ops in
    let field = g.F.Field in
    let steps = c.args.steps.now in
    let i = c.loop-index.index in
    let left = c.run_field_step.new.regs in
    let here = drop_more steps i _ c.loop-index-test.true in
    let next : i + 1 ≡ suc i = omega arith in
    c.loop-index.invariant result new
    (subst (λ (rest : List FieldStep). RunMay O field.size field.generator rest i c.loop-index.regs result new) (sym here)
    (inl (left, c.in_default.ensures, subst (λ k. RunMay O field.size field.generator (drop (i + 1) steps) k left result new) next more)))

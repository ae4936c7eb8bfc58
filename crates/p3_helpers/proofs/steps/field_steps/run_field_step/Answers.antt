use Rattle.std.proofs.Common.{subst, sym}
use Rattle.p3_helpers.specs.FieldRuns.{StepMay}
use Rattle.p3_helpers.specs.declared.steps.field_steps.FieldStep.{FieldStep}
use Rattle.p3_helpers.proofs.steps.field_steps.run_field_step.Goals as goal

pub returns-in-Sqrt : goal.returns-in-Sqrt
returns-in-Sqrt g c =
    let field = g.F.Field in
    subst (λ (s : FieldStep). StepMay g.F.PrimeCharacteristicRing.ops field.size field.generator s c.args.regs.now c.take_root.result c.take_root.new.regs)
    (sym c.in-Sqrt.is) c.take_root.ensures

use Rattle.p3_helpers.specs.RunsAlong.{run-through}
use Rattle.p3_extension.specs.ExtensionGenerators.{list_keeps}
use Rattle.p3_field.proofs.run_laws.run_steps_by_coefficients.Goals as goal

pub returns : goal.returns
returns g c =
    run-through (list_keeps g.A.PrimeCharacteristicRing.ops g.A.ExtensionAlgebra.modulus)
    c.args.steps.now c.run_steps.new.regs c.args.regs.now c.run_steps.ensures

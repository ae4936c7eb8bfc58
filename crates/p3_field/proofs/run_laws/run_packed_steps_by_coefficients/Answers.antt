use Rattle.p3_theory.specs.Rings.Homomorphism.{compose}
use Rattle.p3_helpers.specs.RunsAlong.{run-through}
use Rattle.p3_extension.specs.ExtensionGenerators.{list_keeps}
use Rattle.p3_field.proofs.run_laws.run_packed_steps_by_coefficients.Goals as goal

pub returns : goal.returns
returns g c i h =
    run-through (compose (g.met.PE.PackedExtensionRing.ext_keeps i h) (list_keeps g.F.PrimeCharacteristicRing.ops g.F.ExtensionAlgebra.modulus))
    c.args.steps.now c.run_steps.new.regs c.args.regs.now c.run_steps.ensures

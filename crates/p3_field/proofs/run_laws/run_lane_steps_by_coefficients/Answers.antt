use Rattle.p3_extension.specs.Values.{ext_ops}
use Rattle.p3_theory.specs.Lanes.VectorLanes.{vector_lane}
use Rattle.p3_extension.specs.ExtensionGenerators.{list_keeps}
use Rattle.p3_field.specs.CoefficientRuns.{read_through}
use Rattle.p3_field.proofs.run_laws.run_lane_steps_by_coefficients.Goals as goal

pub returns : goal.returns
returns g c i h =
    let o = g.F.PrimeCharacteristicRing.ops in
    let f = g.F.ExtensionAlgebra.modulus in
    read_through (list_keeps o f) (vector_lane g.PE.PrimeCharacteristicRing.ops (ext_ops o f) g.PE.ExtensionLanes.ext_lanes g.PE.ExtensionLanes.LANES i)
    c.args.steps.now c.run_lane_steps.new.regs c.args.regs.now (c.run_lane_steps.ensures i h)

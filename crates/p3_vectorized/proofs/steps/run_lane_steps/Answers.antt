use Rattle.p3_theory.specs.Lanes.VectorLanes.{vector_keeps}
use Rattle.p3_helpers.specs.RunsAlong.{run-through}
use Rattle.p3_vectorized.proofs.steps.run_lane_steps.Goals as goal

pub returns : goal.returns
returns g c i h =
    run-through (vector_keeps g.PE.PrimeCharacteristicRing.ops g.EF.PrimeCharacteristicRing.ops g.PE.ExtensionLanes.ext_lanes g.PE.ExtensionLanes.LANES g.met.PE.PackedExtensionRing.ext_keeps i h)
    c.args.steps.now c.run_steps.new.regs c.args.regs.now c.run_steps.ensures

use Rattle.p3_helpers.specs.RunsAlong.{run-through}
use Rattle.p3_field.proofs.run_laws.run_packed_extension_steps_by_lanes.Goals as goal

pub returns : goal.returns
returns g c i h =
    run-through (g.met.PE.PackedExtensionRing.ext_keeps i h) c.args.steps.now c.run_steps.new.regs c.args.regs.now c.run_steps.ensures

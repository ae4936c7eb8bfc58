use Rattle.std.proofs.Common.{◌<◌, ◌-◌}
use Rattle.p3_theory.specs.Lanes.LaneBlocks.{Joined}
use Rattle.p3_helpers.proofs.packed_inverse.invert_packed_extension.Given as goal

abbrev pub invariant-loop-size : goal.invariant-loop-size
invariant-loop-size g l =
    let lanes = g.PE.ExtensionLanes.ext_lanes in
    (0 < l.size) × Joined g.EF.PrimeCharacteristicRing.ops g.PE.ExtensionLanes.LANES l.size (lanes (g.PE.PrimeCharacteristicRing.ops.mul l.packed l.others))

abbrev pub decreases-loop-size : goal.decreases-loop-size
decreases-loop-size g l = g.PE.ExtensionLanes.LANES - l.size

use Rattle.p3_theory.specs.Lanes.LaneBlocks.{HoldsNeighbours}
use Rattle.p3_helpers.proofs.packed_inverse.of_neighbours.Given as goal

abbrev pub invariant-loop-lane : goal.invariant-loop-lane
invariant-loop-lane g l =
    let lanes = g.PE.ExtensionLanes.ext_lanes in
    HoldsNeighbours g.EF.PrimeCharacteristicRing.ops l.size (lanes l.packed) (lanes l.neighbours) l.lane

use Rattle.std.proofs.Common.{arith}
use Rattle.p3_theory.specs.Lanes.LaneBlocks.{block-before, block-after, last-block}
use Rattle.p3_helpers.proofs.packed_inverse.of_neighbour.Goals as goal

pub returns-then-block-eq1 : goal.returns-then-block-eq1
returns-then-block-eq1 g c =
    block-before g.EF.PrimeCharacteristicRing.ops c.args.size (g.PE.ExtensionLanes.ext_lanes c.args.packed.now) c.args.lane c.extract.result c.requires.some c.if-block-eq1.true c.extract.ensures

pub returns-then-size-LANES : goal.returns-then-size-LANES
returns-then-size-LANES g c =
    block-after g.EF.PrimeCharacteristicRing.ops c.args.size (g.PE.ExtensionLanes.ext_lanes c.args.packed.now) c.args.lane c.extract-then-size-LANES.result c.requires.some c.if-block-eq1.false
    c.extract-then-size-LANES.ensures

pub returns-else-size-LANES : goal.returns-else-size-LANES
returns-else-size-LANES g c =
    let xs = g.PE.ExtensionLanes.ext_lanes c.args.packed.now in
    last-block g.EF.PrimeCharacteristicRing.ops c.args.size xs c.args.lane c.one.result c.requires.some c.if-block-eq1.false
    (omega (arith, g.met.PE.ExtensionLanes.ext_lengths c.args.packed.now, c.LANES.ensures, c.if-size-LANES.false)) c.one.ensures

use Rattle.std.proofs.Common.{refl}
use Rattle.test_lanes.proofs.packing_blocks.interleaved.Goals as goal

pub interleave-requires-in-4-clause-power : goal.interleave-requires-in-4-clause-power
interleave-requires-in-4-clause-power g c = (2, refl)

pub interleave-requires-in-8-clause-power : goal.interleave-requires-in-8-clause-power
interleave-requires-in-8-clause-power g c = (3, refl)

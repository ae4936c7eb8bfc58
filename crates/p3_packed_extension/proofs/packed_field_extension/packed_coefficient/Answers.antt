use Rattle.std.proofs.Common.{arith}
use Rattle.p3_packed_extension.proofs.packed_field_extension.packed_coefficient.Goals as goal

pub loop-lane-init : goal.loop-lane-init
loop-lane-init g c = λ d k h. absurd (omega (arith, h))

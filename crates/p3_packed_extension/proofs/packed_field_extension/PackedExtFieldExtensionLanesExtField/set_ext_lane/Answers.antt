use Rattle.std.proofs.Common.{arith}
use Rattle.p3_packed_extension.specs.ValueLanes.{lane_written}
use Rattle.p3_packed_extension.proofs.packed_field_extension.PackedExtFieldExtensionLanesExtField.set_ext_lane.Goals as goal

pub returns : goal.returns
returns g c =
    lane_written g.P.PrimeCharacteristicRing.ops g.F.PrimeCharacteristicRing.ops g.P.PackedValue.lanes g.P.PackedValue.WIDTH g.met.P.PackedRing.lengths c.args.self.now _ _ c.args.lane c.requires
    (λ p i u. c.write_lanes.ensures.written p i (omega (arith, u, c.args.self.now.value.sized)))

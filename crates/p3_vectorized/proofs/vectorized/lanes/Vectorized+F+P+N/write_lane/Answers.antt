use Rattle.p3_vectorized.specs.VectorLists.{lane-written}
use Rattle.p3_vectorized.proofs.vectorized.lanes.Vectorized+F+P+N.write_lane.Goals as goal

pub returns : goal.returns
returns g c =
    lane-written g.P.PrimeCharacteristicRing.ops g.F.PrimeCharacteristicRing.ops g.P.PackedValue.lanes g.P.PackedValue.WIDTH c.args.self.now c.set_part.new.self c.WIDTH-width.result c.args.lane
    c.part-part.result c.set_lane.new.self c.args.value c.WIDTH-width.ensures g.met.P.PackedRing.lengths c.requires c.part-part.ensures c.set_lane.ensures c.set_part.ensures

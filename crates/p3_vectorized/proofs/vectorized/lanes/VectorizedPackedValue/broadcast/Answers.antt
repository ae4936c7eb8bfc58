use Rattle.p3_vectorized.specs.VectorLists.{lanes-replicate}
use Rattle.p3_vectorized.proofs.vectorized.lanes.VectorizedPackedValue.broadcast.Goals as goal

pub returns : goal.returns
returns g c =
    lanes-replicate g.P.PrimeCharacteristicRing.ops g.F.PrimeCharacteristicRing.ops g.P.PackedValue.lanes g.P.PackedValue.WIDTH c.new.result c.broadcast.result c.args.value c.new.ensures c.broadcast.ensures

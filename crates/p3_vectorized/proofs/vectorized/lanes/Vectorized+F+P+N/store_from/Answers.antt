use Rattle.std.proofs.Common.{arith, ◌∙◌}
use Rattle.p3_vectorized.specs.VectorLists.{lane-stored, lanes-stored}
use Rattle.p3_vectorized.proofs.vectorized.lanes.Vectorized+F+P+N.store_from.Goals as goal

pub loop-lane-preserved : goal.loop-lane-preserved
loop-lane-preserved g c =
    lane-stored g.P.PrimeCharacteristicRing.ops g.F.PrimeCharacteristicRing.ops g.P.PackedValue.lanes g.P.PackedValue.WIDTH c.args.self.now c.loop-lane.out c.loop-lane.lane c.read_lane.result
    (omega (arith, c.loop-lane.auto.out, c.loop-lane-test.true)) (c.loop-lane.auto.out ∙ c.requires.all) c.read_lane.ensures c.loop-lane.invariant

pub returns : goal.returns
returns g c =
    lanes-stored g.P.PrimeCharacteristicRing.ops g.F.PrimeCharacteristicRing.ops g.P.PackedValue.lanes g.P.PackedValue.WIDTH c.args.self.now c.loop-lane.out c.loop-lane.lane
    (c.loop-lane.auto.out ∙ c.requires.all) (omega (arith, c.loop-lane.auto.out, c.loop-lane-test.false)) c.loop-lane.invariant

use Rattle.std.proofs.Common.{arith}
use borrow.Author.Rules.{of_calls}
use Rattle.p3_vectorized.specs.VectorLists.{lane_count, vector_lanes, length-lanes}
use Rattle.p3_packing_traits.specs.CallsInTurn.{answered-none, answered-callable, answered-more, answered-all}
use Rattle.p3_vectorized.proofs.vectorized.lanes.Vectorized+F+P+N.by_lanes.Goals as goal

pub loop-lane-init : goal.loop-lane-init
loop-lane-init g c = (λ h. h, answered-none g.G.FnMut (lane_count g.P.PackedValue.WIDTH g.row.N) g.F.PrimeCharacteristicRing.ops.zero c.args.f _ c.requires.can)

pub f-value-requires : goal.f-value-requires
f-value-requires g c =
    let n = lane_count g.P.PackedValue.WIDTH g.row.N in
    answered-callable g.G.FnMut n g.F.PrimeCharacteristicRing.ops.zero c.args.f c.loop-lane.f _ c.loop-lane.lane c.loop-lane.invariant.1 (omega (arith, c.requires.all, c.loop-lane-test.true))

pub loop-lane-preserved : goal.loop-lane-preserved
loop-lane-preserved g c =
    let n = lane_count g.P.PackedValue.WIDTH g.row.N in
    let Q = g.F.PrimeCharacteristicRing.ops in
    let whole = vector_lanes g.P.PrimeCharacteristicRing.ops Q g.P.PackedValue.lanes g.P.PackedValue.WIDTH c.loop-lane.vector in (
      search of_calls,
      answered-more g.G.FnMut n Q.zero c.args.f c.loop-lane.f c.f-value.new.self whole _ c.loop-lane.lane c.f-value.result c.loop-lane.invariant.1 (omega (arith, c.requires.all, c.loop-lane-test.true))
          (length-lanes g.P.PrimeCharacteristicRing.ops Q g.P.PackedValue.lanes g.P.PackedValue.WIDTH c.loop-lane.vector) c.f-value.ensures c.write_lane.ensures,
    )

pub returns : goal.returns
returns g c =
    let n = lane_count g.P.PackedValue.WIDTH g.row.N in
    let Q = g.F.PrimeCharacteristicRing.ops in
    answered-all g.G.FnMut n Q.zero c.args.f c.loop-lane.f _ c.loop-lane.lane (omega (arith, c.requires.all, c.loop-lane-test.false)) (omega (arith, c.requires.all, c.loop-lane.auto.lane-end))
    (length-lanes g.P.PrimeCharacteristicRing.ops Q g.P.PackedValue.lanes g.P.PackedValue.WIDTH c.loop-lane.vector) c.loop-lane.invariant.1

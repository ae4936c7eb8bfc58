use denote.Param.Always.{always_mut}
use Rattle.p3_vectorized.specs.VectorLists.{lane_count, vector_lanes}
use Rattle.p3_packing_traits.specs.CallsInTurn.{AnsweredBelow}
use Rattle.p3_vectorized.proofs.vectorized.lanes.Vectorized+F+P+N.by_lanes.Given as goal

abbrev pub invariant-loop-lane : goal.invariant-loop-lane
invariant-loop-lane g l =
    let Q = g.F.PrimeCharacteristicRing.ops in
    let w = g.P.PackedValue.WIDTH in
    (always_mut g.G.FnMut l.initial.f → always_mut g.G.FnMut l.f)
    × AnsweredBelow g.G.FnMut (lane_count w g.row.N) Q.zero l.initial.f l.f (vector_lanes g.P.PrimeCharacteristicRing.ops Q g.P.PackedValue.lanes w l.vector) l.lane

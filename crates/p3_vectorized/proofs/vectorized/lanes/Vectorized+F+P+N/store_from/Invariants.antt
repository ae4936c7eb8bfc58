use Rattle.p3_theory.specs.Lists.TabulatedEntries.{HoldsBelow}
use Rattle.p3_vectorized.specs.VectorLists.{lane_at}
use Rattle.p3_vectorized.proofs.vectorized.lanes.Vectorized+F+P+N.store_from.Given as goal

abbrev pub invariant-loop-lane : goal.invariant-loop-lane
invariant-loop-lane g l =
    let O = g.P.PrimeCharacteristicRing.ops in
    let Q = g.F.PrimeCharacteristicRing.ops in
    HoldsBelow (lane_at O Q g.P.PackedValue.lanes g.P.PackedValue.WIDTH l.fn.self.items) Q.zero l.out l.lane

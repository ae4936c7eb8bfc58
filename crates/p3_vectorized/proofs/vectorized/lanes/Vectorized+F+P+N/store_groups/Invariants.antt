use Rattle.std.proofs.Common.{◌≡◌, ◌*◌, length}
use Rattle.p3_theory.specs.Lists.TabulatedEntries.{HoldsBelow}
use Rattle.p3_vectorized.specs.VectorLists.{lane_at, lane_count}
use Rattle.p3_vectorized.proofs.vectorized.lanes.Vectorized+F+P+N.store_groups.Given as goal

abbrev pub invariant-loop-i : goal.invariant-loop-i
invariant-loop-i g l =
    let O = g.P.PrimeCharacteristicRing.ops in
    let Q = g.F.PrimeCharacteristicRing.ops in
    let w = g.P.PackedValue.WIDTH in
    (length l.out ≡ lane_count w g.row.N) × HoldsBelow (lane_at O Q g.P.PackedValue.lanes w l.self.items) Q.zero l.out (l.i * w)

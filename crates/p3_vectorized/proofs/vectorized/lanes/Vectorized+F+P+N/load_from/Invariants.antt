use Rattle.p3_theory.specs.Lists.TabulatedEntries.{HoldsBelow}
use Rattle.p3_theory.specs.Polynomials.Polynomial.{at}
use Rattle.p3_vectorized.specs.VectorLists.{vector_lanes}
use Rattle.p3_vectorized.proofs.vectorized.lanes.Vectorized+F+P+N.load_from.Given as goal

abbrev pub invariant-loop-lane : goal.invariant-loop-lane
invariant-loop-lane g l =
    let O = g.P.PrimeCharacteristicRing.ops in
    let Q = g.F.PrimeCharacteristicRing.ops in
    HoldsBelow (at Q l.fn.slice) Q.zero (vector_lanes O Q g.P.PackedValue.lanes g.P.PackedValue.WIDTH l.self) l.lane

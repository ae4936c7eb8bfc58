use Rattle.p3_theory.specs.Lists.TabulatedEntries.{HoldsBelow}
use Rattle.p3_theory.specs.Polynomials.Polynomial.{at}
use Rattle.p3_packing_traits.proofs.extension_lanes.ExtensionLanes.to_ext_slice.Given as goal

abbrev pub invariant-loop-lane : goal.invariant-loop-lane
invariant-loop-lane g l =
    let o = g.EF.PrimeCharacteristicRing.ops in
    HoldsBelow (at o (g.Self.ExtensionLanes.ext_lanes l.fn.self)) o.zero l.out l.lane

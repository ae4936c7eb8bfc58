use Rattle.std.proofs.Common.{◌≡◌}
use Rattle.p3_theory.specs.Rings.GeometricSequence.{geometric_term}
use Rattle.p3_theory.specs.Lists.TabulatedEntries.{HoldsBelow}
use Rattle.p3_packing_traits.proofs.ext_powers.powers_by_lanes.Given as goal

abbrev pub invariant-loop-lane : goal.invariant-loop-lane
invariant-loop-lane g l =
    let o = g.EF.PrimeCharacteristicRing.ops in
    let term = geometric_term o l.fn.base o.one in
    record {
      term_is : l.power ≡ term l.lane;
      held : HoldsBelow term o.zero (g.P.ExtensionLanes.ext_lanes l.current) l.lane;
    }

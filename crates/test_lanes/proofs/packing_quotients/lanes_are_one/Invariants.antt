use Rattle.std.proofs.Common.{◌≡◌, ◌<◌, ℕ}
use Rattle.p3_theory.specs.Lanes.Lanes.{lane}
use Rattle.test_lanes.proofs.packing_quotients.lanes_are_one.Given as goal

abbrev pub invariant-loop-lane : goal.invariant-loop-lane
invariant-loop-lane g l =
    let o = g.F.PrimeCharacteristicRing.ops in
    (k : ℕ) → k < l.lane → lane o g.P.PackedValue.lanes k l.packing ≡ o.one

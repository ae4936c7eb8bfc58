use denote.Param.Always.{always_mut}
use Rattle.p3_packing_traits.specs.CallsInTurn.{AnsweredBelow}
use Rattle.p3_packing_traits.proofs.extension_lanes.ExtensionLanes.from_ext_fn.Given as goal

abbrev pub invariant-loop-lane : goal.invariant-loop-lane
invariant-loop-lane g l =
    (always_mut g.G.FnMut l.initial.f → always_mut g.G.FnMut l.f)
    × AnsweredBelow g.G.FnMut g.Self.ExtensionLanes.LANES g.EF.PrimeCharacteristicRing.ops.zero l.initial.f l.f (g.Self.ExtensionLanes.ext_lanes l.packed) l.lane

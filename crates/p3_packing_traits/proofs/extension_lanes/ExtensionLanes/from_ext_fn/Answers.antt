use Rattle.std.proofs.Common.{arith}
use borrow.Author.Rules.{of_calls}
use Rattle.p3_packing_traits.specs.CallsInTurn.{answered-none, answered-callable, answered-more, answered-all}
use Rattle.p3_packing_traits.proofs.extension_lanes.ExtensionLanes.from_ext_fn.Goals as goal

pub loop-lane-init : goal.loop-lane-init
loop-lane-init g c = (λ h. h, answered-none g.G.FnMut g.Self.ExtensionLanes.LANES g.EF.PrimeCharacteristicRing.ops.zero c.args.f _ c.requires)

pub f-value-requires : goal.f-value-requires
f-value-requires g c =
    answered-callable g.G.FnMut g.Self.ExtensionLanes.LANES g.EF.PrimeCharacteristicRing.ops.zero c.args.f c.loop-lane.f _ c.loop-lane.lane c.loop-lane.invariant.1
    (omega (arith, c.LANES-lane-end.ensures, c.loop-lane-test.true))

pub loop-lane-preserved : goal.loop-lane-preserved
loop-lane-preserved g c =
    let whole = g.Self.ExtensionLanes.ext_lanes c.loop-lane.packed in (
      search of_calls,
      answered-more g.G.FnMut g.Self.ExtensionLanes.LANES g.EF.PrimeCharacteristicRing.ops.zero c.args.f c.loop-lane.f c.f-value.new.self whole _ c.loop-lane.lane c.f-value.result c.loop-lane.invariant.1
          (omega (arith, c.LANES-lane-end.ensures, c.loop-lane-test.true)) (g.met.Self.ExtensionLanes.ext_lengths c.loop-lane.packed) c.f-value.ensures c.set_ext_lane.ensures,
    )

pub returns : goal.returns
returns g c =
    answered-all g.G.FnMut g.Self.ExtensionLanes.LANES g.EF.PrimeCharacteristicRing.ops.zero c.args.f c.loop-lane.f _ c.loop-lane.lane (omega (arith, c.LANES-lane-end.ensures, c.loop-lane-test.false))
    (omega (arith, c.LANES-lane-end.ensures, c.loop-lane.auto.lane-end)) (g.met.Self.ExtensionLanes.ext_lengths c.loop-lane.packed) c.loop-lane.invariant.1

use borrow.Author.Count.{below_more}
use Rattle.std.proofs.Common.{◌≡◌, ◌∙◌, arith, refl}
use Rattle.std.proofs.lemmas.Option.{get_or_from_slice_get}
use Rattle.p3_theory.specs.Lanes.Lanes.{lane}
use Rattle.test_lanes.proofs.Units.{one_by_lanes}
use Rattle.test_lanes.proofs.packing_quotients.lanes_are_one.Goals as goal

pub loop-lane-preserved : goal.loop-lane-preserved
loop-lane-preserved g c =
    let o = g.F.PrimeCharacteristicRing.ops in
    let lanes = g.P.PackedValue.lanes in
    below_more (λ k. lane o lanes k c.args.packing ≡ o.one) c.loop-lane.lane c.loop-lane.invariant
    (get_or_from_slice_get (lanes c.args.packing) c.loop-lane.lane c.extract-value.result o.zero c.extract-value.ensures ∙ c.if-not-is_one.ensures.0 refl)

pub returns : goal.returns
returns g c t =
    one_by_lanes g.P.PrimeCharacteristicRing.ops g.F.PrimeCharacteristicRing.ops g.P.PackedValue.lanes _ g.met.P.PackedRing.keeps g.met.P.PackedRing.lengths g.met.P.PackedRing.same c.args.packing
    (λ k h. c.loop-lane.invariant k (omega (arith, h, c.WIDTH-lane-end.ensures, c.loop-lane-test.false)))

use Rattle.std.proofs.Common.{◌<◌, ◌≤◌, ◌∙◌, ap₂, arith, length, slice_set}
use Rattle.std.proofs.lemmas.List.{length-set, get_or-set_other, get_or_default}
use Rattle.p3_packed_extension.specs.ValueLanes.{one_more_written}
use Rattle.p3_packed_extension.proofs.packed_field_extension.write_lanes.Goals as goal

pub loop-i-preserved : goal.loop-i-preserved
loop-i-preserved g c =
    let held = c.loop-i.invariant in
    let i = c.loop-i.i in
    let lanes = g.P.PackedValue.lanes in
    let zero = g.F.PrimeCharacteristicRing.ops.zero in
    let inside : i < length c.loop-i.parts = omega (arith, held.long, c.loop-i-test.true) in
    let value : i < length c.args.values.now = omega (arith, c.requires.values, c.loop-i-test.true) in
    let here : i ≤ i = omega arith in
    record {
      long = omega (arith, length-set {A = g.row.P.Denot}, held.long);
      written = one_more_written g.F.PrimeCharacteristicRing.ops lanes g.P.PackedValue.WIDTH c.args.lane _ c.loop-i.parts _ i _ inside held.written
          (λ p. c.set_lane.ensures
          ∙ ap₂ (λ q v. slice_set (lanes q) c.args.lane v) (get_or_default c.loop-i.parts i _ p inside ∙ held.kept p i here)
          (c.index-values-i.is ∙ get_or_default c.args.values.now i _ zero value));
      kept = λ p j h. get_or-set_other c.loop-i.parts i j _ p (omega arith) ∙ held.kept p j (omega (arith, h));
    }

use Rattle.std.proofs.Common.{◌≡◌, ◌+◌, ◌-◌, ◌*◌, ◌/◌, ◌≤◌, ◌++◌, length, take, drop, arith, rules, sym, subst}
use Rattle.std.proofs.Math.Nat.{suc-mul}
use Rattle.p3_theory.specs.Lists.PairedLists.{zip_with}
use Rattle.p3_helpers.proofs.GroupSteps.{combined_part, combined_rest, group_fits}
use borrow.Rule.Slice.PartMut.{put_mid}
use Rattle.p3_helpers.proofs.helpers.add_slices.Goals as goal

pub offset_bounds-slice_1-start : goal.offset_bounds-slice_1-start
offset_bounds-slice_1-start g c =
    let fits = group_fits c.entries_a_step-step.result (length c.args.slice_1.now) c.loop-i.i c.loop-i-test.true in search (rules, fits)

pub loop-i-preserved : goal.loop-i-preserved
loop-i-preserved g c =
    let q = g.F.PrimeCharacteristicRing.ops in
    let w = c.entries_a_step-step.result in
    let a = c.loop-i.i * w in
    let old = c.loop-i.slice_1 in
    let other = c.args.slice_2.now in
    let part = c.add_by_packing.new.slice_1 in
    let step : (c.loop-i.i + 1) * w ≡ a + w = omega (arith, suc-mul c.loop-i.i w) in
    let fits : a + w ≤ length old = omega (arith, group_fits w (length c.args.slice_1.now) c.loop-i.i c.loop-i-test.true, c.loop-i.invariant.long) in
    record {
      long = search (rules, fits);
      added = subst (λ n. take n (put_mid a (a + w - a) old part) ++ zip_with q.add (drop n (put_mid a (a + w - a) old part)) (drop n other) ≡ zip_with q.add c.args.slice_1.now other) (sym step)
          (combined_part q.add old other c.args.slice_1.now part a w _ (omega arith) fits (search (rules, fits)) c.add_by_packing.ensures c.loop-i.invariant.added);
    }

pub returns : goal.returns
returns g c =
    let w = c.entries_a_step-step.result in
    let n = length c.args.slice_1.now in
    combined_rest g.F.PrimeCharacteristicRing.ops.add c.loop-i.slice_1 c.args.slice_2.now _ c.add_by_packing-2.new.slice_1 w c.loop-i.i (n / w) (search rules)
    c.add_by_packing-2.ensures c.loop-i.invariant.added

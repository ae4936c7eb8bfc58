use Rattle.std.proofs.Common.{◌≡◌, ◌+◌, ◌-◌, ◌*◌, ◌≤◌, ◌++◌, length, take, drop, arith, rules, sym, subst}
use Rattle.p3_theory.specs.Lists.PairedLists.{zip_with}
use Rattle.p3_helpers.proofs.GroupSteps.{combined_part}
use borrow.Rule.Slice.PartMut.{put_mid}
use Rattle.p3_helpers.proofs.helpers.add_scaled_by_packing.Goals as goal

pub loop-i-preserved : goal.loop-i-preserved
loop-i-preserved g c =
    let q = g.F.PrimeCharacteristicRing.ops in
    let f = λ (x y : g.row.F.Denot). q.add x (q.mul y c.args.s) in
    let a = c.loop-i.i * 64 in
    let old = c.loop-i.slice in
    let other = c.args.other.now in
    let part = c.add_scaled_chunk.new.chunk in
    let step : (c.loop-i.i + 1) * 64 ≡ a + 64 = omega arith in
    let fits : a + 64 ≤ length old = omega (arith, c.loop-i-test.true, c.loop-i.invariant.long) in
    record {
      long = search (rules, fits);
      added = subst (λ n. take n (put_mid a (a + 64 - a) old part) ++ zip_with f (drop n (put_mid a (a + 64 - a) old part)) (drop n other) ≡ zip_with f c.args.slice.now other) (sym step)
          (combined_part f old other c.args.slice.now part a 64 _ (omega arith) fits (search (rules, fits)) c.add_scaled_chunk.ensures c.loop-i.invariant.added);
    }

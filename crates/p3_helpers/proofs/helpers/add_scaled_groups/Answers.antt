use Rattle.std.proofs.Common.{◌≡◌, ◌+◌, ◌*◌, ◌++◌, take, drop, slice_range, arith, rules, ap, ap₂, sym, subst, ◌∙◌}
use Rattle.std.proofs.Math.Nat.{suc-mul}
use Rattle.p3_theory.specs.Lists.PairedLists.{zip_with}
use Rattle.p3_helpers.proofs.GroupSteps.{combined_group, combined_lanes, summed_lanes}
use Rattle.p3_helpers.proofs.helpers.add_scaled_groups.Goals as goal

pub loop-i-preserved : goal.loop-i-preserved
loop-i-preserved g c =
    let o = g.P.PrimeCharacteristicRing.ops in
    let q = g.F.PrimeCharacteristicRing.ops in
    let lanes = g.P.PackedValue.lanes in
    let w = g.P.PackedValue.WIDTH in
    let a = c.loop-i.i * w in
    let f = λ (x y : g.row.F.Denot). q.add x (q.mul y c.args.s) in
    let new = c.store_block.new.slice in
    let other = c.args.other.now in
    let part = slice_range c.loop-i.slice a (a + w) in
    let y = c.load_block-y.result in
    let step : (c.loop-i.i + 1) * w ≡ a + w = omega (arith, suc-mul c.loop-i.i w) in
    record {
      long = search rules;
      added = subst (λ n. take n new ++ zip_with f (drop n new) (drop n other) ≡ zip_with f c.args.slice.now other) (sym step)
          (combined_group f new c.loop-i.slice other c.args.slice.now a w c.store_block.ensures.before
          (c.store_block.ensures.block ∙ ap lanes (g.met.P.PrimeCharacteristicRing.adds.exact _ _ _ c.add-sum.ensures)
          ∙ summed_lanes o q lanes w g.met.P.PackedRing.lengths g.met.P.PackedRing.keeps c.load_block-x.result c.mul-term.result
          ∙ ap₂ (λ l p. zip_with q.add l (lanes p)) c.load_block-x.ensures (g.met.P.PrimeCharacteristicRing.muls.exact _ _ _ c.mul-term.ensures ∙ ap (o.mul y) c.requires.factor)
          ∙ combined_lanes o q lanes w g.met.P.PackedRing.lengths g.met.P.PackedRing.keeps part y (g.P.Algebra.embed c.args.s) c.args.s (g.met.P.PackedRing.injects c.args.s)
          ∙ ap (zip_with f part) c.load_block-y.ensures)
          c.store_block.ensures.after c.loop-i.invariant.added);
    }

use Rattle.std.proofs.Common.{◌≡◌, ◌+◌, ◌*◌, ◌++◌, take, drop, arith, rules, ap, ap₂, sym, subst, ◌∙◌}
use Rattle.std.proofs.Math.Nat.{suc-mul}
use Rattle.p3_theory.specs.Lists.PairedLists.{zip_with}
use Rattle.p3_helpers.proofs.GroupSteps.{combined_group, summed_lanes}
use Rattle.p3_helpers.proofs.helpers.add_by_packing.Goals as goal

pub loop-i-preserved : goal.loop-i-preserved
loop-i-preserved g c =
    let o = g.P.PrimeCharacteristicRing.ops in
    let q = g.F.PrimeCharacteristicRing.ops in
    let lanes = g.P.PackedValue.lanes in
    let w = g.P.PackedValue.WIDTH in
    let i = c.loop-i.i in
    let new = c.store_block.new.slice in
    let other = c.args.slice_2.now in
    let step : (i + 1) * w ≡ i * w + w = omega (arith, suc-mul i w) in
    record {
      long = search rules;
      added = subst (λ n. take n new ++ zip_with q.add (drop n new) (drop n other) ≡ zip_with q.add c.args.slice_1.now other) (sym step)
          (combined_group q.add new c.loop-i.slice_1 other c.args.slice_1.now (i * w) w c.store_block.ensures.before
          (c.store_block.ensures.block ∙ ap lanes (g.met.P.PrimeCharacteristicRing.adds.exact _ _ _ c.add-sum.ensures)
          ∙ summed_lanes o q lanes w g.met.P.PackedRing.lengths g.met.P.PackedRing.keeps c.load_block-x.result c.load_block-y.result
          ∙ ap₂ (zip_with q.add) c.load_block-x.ensures c.load_block-y.ensures)
          c.store_block.ensures.after c.loop-i.invariant.added);
    }

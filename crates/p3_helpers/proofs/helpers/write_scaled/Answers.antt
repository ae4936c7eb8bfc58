use Rattle.std.proofs.Common.{◌≡◌, ◌+◌, ◌*◌, ◌++◌, map, take, drop, arith, rules, ap, sym, subst, ◌∙◌}
use Rattle.std.proofs.Math.Nat.{suc-mul}
use Rattle.p3_helpers.proofs.GroupSteps.{written_group, scaled_lanes}
use Rattle.p3_helpers.proofs.helpers.write_scaled.Goals as goal

pub loop-i-preserved : goal.loop-i-preserved
loop-i-preserved g c =
    let o = g.P.PrimeCharacteristicRing.ops in
    let q = g.F.PrimeCharacteristicRing.ops in
    let lanes = g.P.PackedValue.lanes in
    let w = g.P.PackedValue.WIDTH in
    let i = c.loop-i.i in
    let f = λ (x : g.row.F.Denot). q.mul x c.args.s in
    let new = c.store_block.new.slice in
    let from = c.args.from.now in
    let step : (i + 1) * w ≡ i * w + w = omega (arith, suc-mul i w) in
    record {
      long = search rules;
      written = subst (λ n. take n new ++ map f (drop n from) ≡ map f from) (sym step)
          (written_group f new c.loop-i.to from (map f from) (i * w) w c.store_block.ensures.before
          (c.store_block.ensures.block ∙ ap lanes (g.met.P.PrimeCharacteristicRing.muls.exact _ _ _ c.mul-product.ensures ∙ ap (o.mul c.load_block.result) c.requires.factor)
          ∙ scaled_lanes o q lanes w g.met.P.PackedRing.lengths g.met.P.PackedRing.keeps c.load_block.result (g.P.Algebra.embed c.args.s) c.args.s (g.met.P.PackedRing.injects c.args.s)
          ∙ ap (map f) c.load_block.ensures)
          c.loop-i.invariant.written);
    }

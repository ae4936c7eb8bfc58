use Rattle.std.proofs.Common.{◌<◌, length, rules, ap, ◌∙◌}
use Rattle.p3_theory.specs.Rings.MixedDotProduct.{mixed-begin, mixed-step, mixed-end}
use Rattle.p3_ring.proofs.sums.sum_of_products.Goals as goal

pub loop-i-init : goal.loop-i-init
loop-i-init g c o ring embed adds muls =
    let some : 0 < length c.args.a.now = search rules in
    mixed-begin ring embed c.args.a.now c.args.f.now c.requires.lengths c.index-a-0.result c.index-f-0.result c.mul-sum.result
    some c.index-a-0.is c.index-f-0.is (muls.exact _ _ _ c.mul-sum.ensures)

pub loop-i-preserved : goal.loop-i-preserved
loop-i-preserved g c o ring embed adds muls =
    mixed-step ring embed c.args.a.now c.args.f.now c.requires.lengths c.loop-i.i c.index-a-i.result c.index-f-i.result c.loop-i.sum c.add-sum.result _
    c.loop-i-test.true c.index-a-i.is c.index-f-i.is
    (adds.exact _ _ _ c.add-sum.ensures ∙ ap (o.add c.loop-i.sum) (muls.exact _ _ _ c.mul-product.ensures)) (c.loop-i.invariant o ring embed adds muls)

pub returns : goal.returns
returns g c o ring embed adds muls zero =
    mixed-end ring embed c.args.a.now c.args.f.now c.requires.lengths c.loop-i.i c.loop-i.sum _ c.loop-i-test.false (c.loop-i.invariant o ring embed adds muls)

use Rattle.std.proofs.Common.{refl, ap, ◌∙◌}
use Rattle.p3_theory.specs.Rings.MixedDotProduct.{mixed-step, mixed-end}
use Rattle.p3_ring.proofs.linear_combination.add_products.Goals as goal

pub loop-i-init : goal.loop-i-init
loop-i-init g c o ring embed adds muls = refl

pub loop-i-preserved : goal.loop-i-preserved
loop-i-preserved g c o ring embed adds muls =
    mixed-step ring embed c.args.values.now c.args.coeffs.now c.requires.lengths c.loop-i.i c.index-values-i.result c.index-coeffs-i.result c.loop-i.sum c.add-sum.result _
    c.loop-i-test.true c.index-values-i.is c.index-coeffs-i.is
    (adds.exact _ _ _ c.add-sum.ensures ∙ ap (o.add c.loop-i.sum) (muls.exact _ _ _ c.mul-product.ensures)) (c.loop-i.invariant o ring embed adds muls)

pub returns : goal.returns
returns g c o ring embed adds muls =
    mixed-end ring embed c.args.values.now c.args.coeffs.now c.requires.lengths c.loop-i.i c.loop-i.sum _ c.loop-i-test.false (c.loop-i.invariant o ring embed adds muls)

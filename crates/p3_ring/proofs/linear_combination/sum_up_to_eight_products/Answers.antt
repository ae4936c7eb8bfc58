use Rattle.p3_theory.specs.Rings.MixedDotProduct.{mixed-split}
use Rattle.p3_ring.proofs.linear_combination.sum_up_to_eight_products.Goals as goal

pub returns-then-values-le4 : goal.returns-then-values-le4
returns-then-values-le4 g c = c.sum_up_to_four_products.ensures

pub returns : goal.returns
returns g c o ring embed adds muls zero =
    mixed-split ring embed c.args.values.now c.args.coeffs.now c.requires.lengths 4 c.sum_up_to_four_products-low.result c.sum_up_to_four_products-high.result c.add.result
    (c.sum_up_to_four_products-low.ensures o ring embed adds muls zero) (c.sum_up_to_four_products-high.ensures o ring embed adds muls zero) (adds.exact _ _ _ c.add.ensures)

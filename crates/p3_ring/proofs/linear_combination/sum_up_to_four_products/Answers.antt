use Rattle.p3_theory.specs.Rings.MixedDotProduct.{mixed-split}
use Rattle.p3_ring.proofs.linear_combination.sum_up_to_four_products.Goals as goal

pub returns-then-values-le2 : goal.returns-then-values-le2
returns-then-values-le2 g c = c.sum_of_products.ensures

pub returns : goal.returns
returns g c o ring embed adds muls zero =
    mixed-split ring embed c.args.values.now c.args.coeffs.now c.requires.lengths 2 c.sum_of_products-low.result c.sum_of_products-high.result c.add.result
    (c.sum_of_products-low.ensures o ring embed adds muls zero) (c.sum_of_products-high.ensures o ring embed adds muls zero) (adds.exact _ _ _ c.add.ensures)

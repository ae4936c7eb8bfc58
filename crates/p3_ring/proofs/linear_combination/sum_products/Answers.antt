use Rattle.std.proofs.Common.{arith, ap, ◌∙◌}
use Rattle.p3_theory.specs.Rings.MixedDotProduct.{mixed-first, mixed-chunk, mixed-end, mixed-rest}
use Rattle.p3_ring.proofs.linear_combination.sum_products.Goals as goal

pub returns-then-values-le8 : goal.returns-then-values-le8
returns-then-values-le8 g c = c.sum_up_to_eight_products.ensures

pub loop-start-init : goal.loop-start-init
loop-start-init g c =
    record {
      inside = omega arith;
      makes = λ o ring embed adds muls zero.
          mixed-first ring embed c.args.values.now c.args.coeffs.now c.requires.lengths 8 c.sum_up_to_eight_products-sum.result
          (c.sum_up_to_eight_products-sum.ensures o ring embed adds muls zero);
    }

pub loop-start-preserved : goal.loop-start-preserved
loop-start-preserved g c =
    record {
      inside = omega arith;
      makes = λ o ring embed adds muls zero.
          mixed-chunk ring embed c.args.values.now c.args.coeffs.now c.requires.lengths c.loop-start.start 8 c.sum_up_to_eight_products-chunk.result c.loop-start.sum
          c.add-sum.result _ (c.sum_up_to_eight_products-chunk.ensures o ring embed adds muls zero) (adds.exact _ _ _ c.add-sum.ensures)
          (c.loop-start.invariant.makes o ring embed adds muls zero);
    }

pub returns-then-start-values : goal.returns-then-start-values
returns-then-start-values g c o ring embed adds muls zero =
    mixed-rest ring embed c.args.values.now c.args.coeffs.now c.requires.lengths c.loop-start.start c.loop-start.sum c.add.result _
    (adds.exact _ _ _ c.add.ensures ∙ ap (o.add c.loop-start.sum) (c.sum_up_to_eight_products-rest.ensures o ring embed adds muls zero))
    (c.loop-start.invariant.makes o ring embed adds muls zero)

pub returns-else-start-values : goal.returns-else-start-values
returns-else-start-values g c o ring embed adds muls zero =
    mixed-end ring embed c.args.values.now c.args.coeffs.now c.requires.lengths c.loop-start.start c.loop-start.sum _ (omega arith)
    (c.loop-start.invariant.makes o ring embed adds muls zero)

use Rattle.std.proofs.Common.{arith}
use Rattle.p3_theory.specs.Rings.MixedDotProduct.{mixed-start, mixed-chunk, mixed-rest}
use Rattle.p3_ring.proofs.linear_combination.sum_by_chunks.Goals as goal

pub returns-then-values : goal.returns-then-values
returns-then-values g c = c.sum_products.ensures

pub loop-start-init : goal.loop-start-init
loop-start-init g c =
    record {
      inside = omega arith;
      makes = λ o ring embed adds muls zero. mixed-start ring embed c.args.values.now c.args.coeffs.now c.requires.lengths c.args.zero zero;
    }

pub loop-start-preserved : goal.loop-start-preserved
loop-start-preserved g c =
    record {
      inside = omega arith;
      makes = λ o ring embed adds muls zero.
          mixed-chunk ring embed c.args.values.now c.args.coeffs.now c.requires.lengths c.loop-start.start g.row.CHUNK c.sum_products-chunk.result c.loop-start.sum
          c.add-sum.result _ (c.sum_products-chunk.ensures o ring embed adds muls zero) (adds.exact _ _ _ c.add-sum.ensures)
          (c.loop-start.invariant.makes o ring embed adds muls zero);
    }

pub returns : goal.returns
returns g c o ring embed adds muls zero =
    mixed-rest ring embed c.args.values.now c.args.coeffs.now c.requires.lengths c.loop-start.start c.loop-start.sum c.add_products.result _
    (c.add_products.ensures o ring embed adds muls) (c.loop-start.invariant.makes o ring embed adds muls zero)

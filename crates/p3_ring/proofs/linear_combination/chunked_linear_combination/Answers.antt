use Rattle.std.proofs.Common.{length, arith}
use Rattle.p3_theory.specs.Rings.MixedDotProduct.{mixed-end, mixed-start}
use Rattle.p3_ring.proofs.linear_combination.chunked_linear_combination.Goals as goal

pub loop-start-init : goal.loop-start-init
loop-start-init g c = (
  omega arith,
  mixed-start g.met.A.PrimeCharacteristicRing.ring g.A.Algebra.embed c.args.values.now c.args.coeffs.now c.requires.lengths c.zero-sum.result c.zero-sum.ensures,
)

pub loop-start-preserved : goal.loop-start-preserved
loop-start-preserved g c = (omega arith, c.add_mixed_dot_product-sum.ensures _ c.loop-start.invariant.1)

pub returns-then-start-values : goal.returns-then-start-values
returns-then-start-values g c =
    mixed-end g.met.A.PrimeCharacteristicRing.ring g.A.Algebra.embed c.args.values.now c.args.coeffs.now c.requires.lengths (length c.args.values.now) c.add_mixed_dot_product.result _
    (omega arith) (c.add_mixed_dot_product.ensures _ c.loop-start.invariant.1)

pub returns-else-start-values : goal.returns-else-start-values
returns-else-start-values g c =
    mixed-end g.met.A.PrimeCharacteristicRing.ring g.A.Algebra.embed c.args.values.now c.args.coeffs.now c.requires.lengths c.loop-start.start c.loop-start.sum _
    (omega arith) c.loop-start.invariant.1

use Rattle.std.proofs.Common.{ap, ◌∙◌, arith}
use Rattle.p3_theory.specs.Rings.DotProduct.{sum-end, sum-step}
use Rattle.p3_ring.proofs.SumParts.{sum_first, sum_rest}
use Rattle.p3_ring.proofs.sums.sum_in_pairs.Goals as goal

pub returns-then-input-le8 : goal.returns-then-input-le8
returns-then-input-le8 g c = c.sum_up_to_eight.ensures

pub loop-start-init : goal.loop-start-init
loop-start-init g c =
    record {
      inside = omega arith;
      makes = λ o ring adds zero. sum_first ring c.args.input.now 8 c.sum_up_to_eight-sum.result (c.sum_up_to_eight-sum.ensures o ring adds zero);
    }

pub loop-start-preserved : goal.loop-start-preserved
loop-start-preserved g c =
    record {
      inside = omega arith;
      makes = λ o ring adds zero.
          sum-step ring c.args.input.now c.loop-start.start 8 c.loop-start.sum c.sum_up_to_eight-chunk.result c.add-sum.result _
          (c.sum_up_to_eight-chunk.ensures o ring adds zero) (adds.exact _ _ _ c.add-sum.ensures) (c.loop-start.invariant.makes o ring adds zero);
    }

pub returns-then-start-input : goal.returns-then-start-input
returns-then-start-input g c o ring adds zero =
    sum_rest ring c.args.input.now c.loop-start.start c.loop-start.sum c.add.result _
    (adds.exact _ _ _ c.add.ensures ∙ ap (o.add c.loop-start.sum) (c.sum_up_to_eight-rest.ensures o ring adds zero)) (c.loop-start.invariant.makes o ring adds zero)

pub returns-else-start-input : goal.returns-else-start-input
returns-else-start-input g c o ring adds zero =
    sum-end ring c.args.input.now c.loop-start.start c.loop-start.sum _ (omega arith) (c.loop-start.invariant.makes o ring adds zero)

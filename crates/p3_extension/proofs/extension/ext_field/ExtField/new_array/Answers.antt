use Rattle.std.proofs.Common.{[], arith, rules}
use Rattle.std.proofs.Math.ListN.{length-set}
use Rattle.p3_theory.specs.Lists.ListItems.{images-more, images-all}
use Rattle.p3_extension.proofs.extension.ext_field.ExtField.new_array.Goals as goal

pub loop-i-preserved : goal.loop-i-preserved
loop-i-preserved g c = (
  simp length-set c.loop-i.invariant.0,
  images-more (λ x. x.value) [] c.args.input c.loop-i.output c.loop-i.i c.new.result (omega arith) c.loop-i.invariant.1 (search rules),
)

pub returns : goal.returns
returns g c =
    images-all (λ x. x.value) [] c.args.input g.row.N c.loop-i.output c.loop-i.invariant.0 (search rules) (λ k w. c.loop-i.invariant.1 k (omega arith))

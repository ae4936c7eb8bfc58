use Rattle.std.proofs.Common.{rules}
use Rattle.p3_field.specs.CopiedItems.{copied_backward}
use Rattle.poly_eval.proofs.values.eval_point.Goals as goal

pub returns : goal.returns
returns g c =
    let xs = c.args.coeffs.now in
    c.horner.ensures.lists xs (copied_backward {s = c.copied.result} xs (search rules)).runs

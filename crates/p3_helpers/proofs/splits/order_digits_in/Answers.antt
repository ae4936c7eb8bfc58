use Rattle.std.proofs.Common.{◌/◌, ◌%◌, ap, ◌∙◌, arith}
use Rattle.p3_helpers.proofs.SplitDigits.{rest_more, digits_more}
use Rattle.p3_helpers.proofs.splits.order_digits_in.Goals as goal

pub loop-preserved : goal.loop-preserved
loop-preserved g c =
    let v = c.args.value in
    let p = g.TF.Quotient.order in
    let order = c.ORDER_U32-p_u32.ensures ∙ g.met.TF.PrimeField32.order_u32 in (
      ap (λ n. c.loop.rem / n) order ∙ rest_more c.loop.rem v p c.loop.counter c.loop.invariant.0,
      digits_more g.TF.Quotient.canon c.loop.limbs.items c.push.new.self.items c.from_int.result c.loop.rem v p c.loop.counter p
          (omega (arith, g.met.TF.PrimeField.residues.above_one)) (omega arith) c.loop.invariant.0 c.loop.invariant.1 c.in_ok-push.ensures.items (c.from_int.ensures ∙ ap (λ n. c.loop.rem % n % p) order),
    )

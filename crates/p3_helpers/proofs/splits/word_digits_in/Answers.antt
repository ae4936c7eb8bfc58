use Rattle.std.proofs.Common.{◌%◌, ◌^◌, ap, ◌∙◌}
use Rattle.std.proofs.lemmas.Nat.{and_mask}
use Rattle.p3_helpers.proofs.SplitDigits.{rest_more, reduced_more}
use Rattle.p3_helpers.proofs.splits.word_digits_in.Goals as goal

pub loop-preserved : goal.loop-preserved
loop-preserved g c =
    let v = c.args.value in
    let p = g.TF.Quotient.order in (
      rest_more c.loop.rem v (2 ^ 64) c.loop.counter c.loop.invariant.0,
      reduced_more g.TF.Quotient.canon c.loop.limbs.items c.push.new.self.items c.from_int.result c.loop.rem v (2 ^ 64) c.loop.counter p
          c.loop.invariant.0 c.loop.invariant.1 c.in_ok-push.ensures.items (c.from_int.ensures ∙ ap (λ n. n % p) (and_mask c.loop.rem 64)),
    )

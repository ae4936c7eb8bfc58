use Rattle.std.proofs.Common.{suc, ◌-◌, ◌%◌, ◌^◌, ap, ◌∙◌, arith, bit_and}
use Rattle.std.proofs.lemmas.Nat.{one_shl, pow_pos, and_mask}
use Rattle.std.proofs.Math.Nat.{pow-suc}
use Rattle.p3_helpers.proofs.Sizes.{exponent_below}
use Rattle.p3_helpers.proofs.SplitDigits.{rest_more, digits_more}
use Rattle.p3_helpers.proofs.splits.radix_digits_in.Goals as goal

pub prove-unreachable-requires : goal.prove-unreachable-requires
prove-unreachable-requires g c =
    let order = c.ORDER_U32.ensures ∙ g.met.TF.PrimeField32.order_u32 in
    let l = exponent_below 2 c.args.radix_bits (suc c.ilog2.result) (omega arith) (omega (arith, c.requires.injective, c.ilog2.ensures.next_power_gt, pow-suc 2 c.ilog2.result, order)) in
    omega (arith, l, c.if-prove.true)

pub loop-preserved : goal.loop-preserved
loop-preserved g c =
    let v = c.args.value in
    let r = c.args.radix_bits in
    let p = g.TF.Quotient.order in
    let masked = ap (λ n. bit_and c.loop.rem (n - 1) % p) (one_shl r 128 (omega arith)) ∙ ap (λ n. n % p) (and_mask c.loop.rem r) in (
      rest_more c.loop.rem v (2 ^ r) c.loop.counter c.loop.invariant.0,
      digits_more g.TF.Quotient.canon c.loop.limbs.items c.push.new.self.items c.from_int.result c.loop.rem v (2 ^ r) c.loop.counter p
          (pow_pos r) c.requires.injective c.loop.invariant.0 c.loop.invariant.1 c.in_ok-push.ensures.items (c.from_int.ensures ∙ masked),
    )

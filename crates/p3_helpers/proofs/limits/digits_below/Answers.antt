use Rattle.std.proofs.Common.{◌*◌, ◌^◌, refl, arith, ap, ◌∙◌}
use Rattle.std.proofs.lemmas.Nat.{one_shl}
use Rattle.std.proofs.Math.Nat.{pow-le-pow_right}
use Rattle.p3_helpers.proofs.EqualDigits.{stops, counts, counts_none, stops_after, never_full}
use Rattle.p3_helpers.proofs.limits.digits_below.Goals as goal

pub loop-k-init : goal.loop-k-init
loop-k-init c = counts_none c.args.greatest (2 ^ c.args.radix_bits) c.args.order c.requires.whole

pub returns-in_default : goal.returns-in_default
returns-in_default c = let h = c.in_default.ensures in stops c.loop-k.invariant (omega (arith, h, c.ranges.order.fits))

pub returns-then-more-order : goal.returns-then-more-order
returns-then-more-order c = let h = c.in-Some.ensures in stops c.loop-k.invariant (omega (arith, h, c.if-more-order.true))

pub returns-in_default-checked_mul : goal.returns-in_default-checked_mul
returns-in_default-checked_mul c = let h = c.in-Some.ensures in let k = c.in_default-checked_mul.ensures in
    let base = one_shl c.args.radix_bits 128 (omega arith) in
    stops_after c.loop-k.invariant c.in-Some.more _ c.requires.digit h.1 refl (omega (arith, c.if-more-order.false)) (omega (arith, k, ap (λ z. c.loop-k.power * z) base, c.ranges.order.fits))

pub loop-k-preserved : goal.loop-k-preserved
loop-k-preserved c = let h = c.in-Some.ensures in let k = c.in-Some-checked_mul.ensures in
    let base = one_shl c.args.radix_bits 128 (omega arith) in
    counts c.loop-k.invariant c.in-Some.more _ _ h.1 refl (omega (arith, c.if-more-order.false)) (k.1 ∙ ap (λ z. c.loop-k.power * z) base) (omega (arith, k))

pub returns : goal.returns
returns c = absurd (never_full c.loop-k.invariant (pow-le-pow_right (omega arith) c.requires.radix) (omega arith))

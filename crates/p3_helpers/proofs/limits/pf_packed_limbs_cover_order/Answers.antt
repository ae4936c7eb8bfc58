use Rattle.std.proofs.Common.{◌*◌, refl, arith}
use Rattle.std.proofs.Math.Nat.{pow-le-pow_right}
use Rattle.p3_helpers.proofs.limits.pf_packed_limbs_cover_order.Goals as goal

pub returns-else-bits-lt128 : goal.returns-else-bits-lt128
returns-else-bits-lt128 g c =
    let h = c.in-Some.ensures in
    (λ _. (h.0, omega (arith, pow-le-pow_right {n = 2} (omega arith) {i = 128} {j = c.args.num_limbs * c.args.radix_bits} (omega (arith, h.1, c.if-bits-lt128.false)), c.order_of-order.type_inv, c.order_of-order.ensures)), λ _. refl)

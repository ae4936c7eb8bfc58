use Rattle.std.proofs.Common.{◌≡◌, ◌≤◌, ◌-◌, ◌^◌, ℕ, List, length, arith, subst}
use Rattle.p3_helpers.specs.Digits.{IsLimit, pack}
use Rattle.p3_helpers.proofs.BitLengths.{same_length}
use Rattle.p3_helpers.proofs.limits.max_absorb_injective_limbs.Goals as goal

pub returns-clause-limit : goal.returns-clause-limit
returns-clause-limit g c r h =
    let order = g.F.Quotient.order in
    let P : ℕ → Type 0 = λ b. IsLimit (order - 1) (2 ^ b) g.PF.Quotient.order c.max_packed_injective_limbs.result in
    subst P (same_length (order - 1) _ r c.absorb_radix_bits.ensures.length h) c.max_packed_injective_limbs.ensures.limit

pub returns-clause-injective : goal.returns-clause-injective
returns-clause-injective g c r h =
    let order = g.F.Quotient.order in
    let fits : order ≤ 2 ^ c.absorb_radix_bits.result = omega (arith, c.absorb_radix_bits.ensures.length.0) in
    let P : ℕ → Type 0 = λ b. (xs ys : List g.row.F.Denot) → length xs ≡ length ys → length xs ≤ c.max_packed_injective_limbs.result
    → pack g.F.Quotient.canon xs b g.PF.Quotient.order ≡ pack g.F.Quotient.canon ys b g.PF.Quotient.order → xs ≡ ys in
    subst P (same_length (order - 1) _ r c.absorb_radix_bits.ensures.length h) (c.max_packed_injective_limbs.ensures.injective fits)

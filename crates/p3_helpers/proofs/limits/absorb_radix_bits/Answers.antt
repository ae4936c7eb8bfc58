use Rattle.std.proofs.Common.{◌≡◌, ◌-◌, ◌∙◌, ℕ, arith, subst}
use Rattle.std.specs.Int.Count.{count_leading_zeros}
use Rattle.p3_theory.specs.ResidueRings.BitLength.{IsBitLength, bit_length_by_zeros}
use Rattle.p3_helpers.proofs.BitLengths.{some_digit}
use Rattle.p3_helpers.proofs.limits.absorb_radix_bits.Goals as goal

pub returns-clause-length : goal.returns-clause-length
returns-clause-length g c =
    let order : c.ORDER_U32.result ≡ g.F.Quotient.order = c.ORDER_U32.ensures ∙ g.met.F.PrimeField32.order_u32 in
    let P : ℕ → Type 0 = λ n. IsBitLength (n - 1) (32 - count_leading_zeros 32 (c.ORDER_U32.result - 1)) in
    subst P order (bit_length_by_zeros 32 (c.ORDER_U32.result - 1) (omega (arith, c.ORDER_U32.type_inv)))

pub returns-clause-some : goal.returns-clause-some
returns-clause-some g c =
    let order : c.ORDER_U32.result ≡ g.F.Quotient.order = c.ORDER_U32.ensures ∙ g.met.F.PrimeField32.order_u32 in
    some_digit (c.ORDER_U32.result - 1) _ (omega (arith, order, g.met.F.PrimeField.residues.above_one)) (bit_length_by_zeros 32 (c.ORDER_U32.result - 1) (omega (arith, c.ORDER_U32.type_inv)))

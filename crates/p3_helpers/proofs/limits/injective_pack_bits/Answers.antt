use Rattle.std.proofs.Common.{◌≡◌, ◌-◌, ◌+◌, ℕ, arith, subst}
use Rattle.p3_theory.specs.ResidueRings.BitLength.{IsBitLength}
use Rattle.p3_helpers.proofs.limits.injective_pack_bits.Goals as goal

pub returns-clause-length : goal.returns-clause-length
returns-clause-length g c =
    let bits = c.absorb_radix_bits.result in
    let same : bits ≡ bits - 1 + 1 = omega (arith, c.absorb_radix_bits.ensures.some) in
    let P : ℕ → Type 0 = λ k. IsBitLength (g.F.Quotient.order - 1) k in
    subst P same c.absorb_radix_bits.ensures.length

-- The number of binary digits.
use Rattle.std.proofs.Common.{◌≡◌, ◌<◌, ◌≤◌, ◌^◌, ℕ, zero, suc, arith}
use Rattle.std.proofs.Math.Nat.{pow-zero}
use Rattle.p3_theory.specs.ResidueRings.BitLength.{IsBitLength}

pub same_length : (n a b : ℕ) → IsBitLength n a → IsBitLength n b → a ≡ b
same_length n a b (above, least) (above', least') =
    let low : a ≤ b = least b above' in
    let high : b ≤ a = least' a above in
    omega arith

pub some_digit : (n k : ℕ) → 0 < n → IsBitLength n k → 0 < k
some_digit n zero h (above, _) = absurd (omega (arith, h, above, pow-zero 2))
some_digit n (suc k) h _ = omega arith

pub few_digits : (n k w : ℕ) → n < 2 ^ w → IsBitLength n k → k ≤ w
few_digits n k w h (_, least) = least w h

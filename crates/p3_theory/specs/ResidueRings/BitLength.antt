-- How many binary digits a number has.
use Rattle.std.specs.Prelude.{◌≡◌, ◌<◌, ◌≤◌, ◌+◌, ◌-◌, ◌*◌, ◌^◌, ℕ}
use Rattle.std.proofs.Common.{arith, subst, suc}
use Rattle.std.proofs.Math.Nat.{pow-le-pow_right, pow-succ'}
use Rattle.std.proofs.lemmas.Nat.{leading_length}
use lib.Count.{count_leading_zeros}

-- k is the least number with n below 2 to the k
abbrev pub IsBitLength : ℕ → ℕ → Type 0
IsBitLength n k = (n < 2 ^ k) × ((j : ℕ) → n < 2 ^ j → k ≤ j)

half_is_no_more : (n m : ℕ) → 2 ^ m ≤ 2 * n + 1 → (j : ℕ) → j < m → 2 * 2 ^ j ≤ 2 * n + 1
half_is_no_more n m h j lt =
    let next : suc j ≤ m = omega arith in
    let two : 0 < 2 = omega arith in
    let grows : 2 ^ suc j ≤ 2 ^ m = pow-le-pow_right two next in
    omega (arith, pow-succ' 2 j)

no_less : (n m : ℕ) → 2 ^ m ≤ 2 * n + 1 → (j : ℕ) → n < 2 ^ j → m ≤ j
no_less n m h j b =
    let smaller : j < m → 2 * 2 ^ j ≤ 2 * n + 1 = half_is_no_more n m h j in
    grind (arith, smaller)

is_length : (n m : ℕ) → n < 2 ^ m → 2 ^ m ≤ 2 * n + 1 → IsBitLength n m
is_length n m h k = (h, no_less n m k)

-- the leading zeros of n, taken from the width, leave its length
pub bit_length_by_zeros : (w n : ℕ) → n < 2 ^ w → IsBitLength n (w - count_leading_zeros w n)
bit_length_by_zeros w n h =
    let (m, whole, above, near) = leading_length w n h in
    let same : m ≡ w - count_leading_zeros w n = omega (arith, whole) in
    subst (IsBitLength n) same (is_length n m above near)

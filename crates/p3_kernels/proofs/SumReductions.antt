-- Sums of low and of high words, reduced modulo p: the high words first.
use Rattle.std.proofs.Common.{◌≡◌, ◌<◌, ◌≤◌, ◌+◌, ◌-◌, ◌*◌, ◌/◌, ◌%◌, ◌^◌, ℕ, ap, arith, ◌∙◌, sym}
use Rattle.std.proofs.Math.Nat.{mul-le-mul}
use Rattle.std.proofs.lemmas.Nat.{mul-mod_first, mul-mod_second}
use Rattle.p3_theory.specs.ResidueRings.Modular.{add-mod_first, add-mod_second}

-- the remainder of 2^64
pub square_is : (p : ℕ) → ((2 ^ 64 - 1) % p + 1) % p ≡ 2 ^ 64 % p
square_is p = add-mod_first (2 ^ 64 - 1) 1 p

-- where m is the high number divided by 2^32, m times the square of 2^32 and a low number are what both come to
pub high_added : (p square m low high t : ℕ) → square % p ≡ 2 ^ 64 % p → (m * 2 ^ 32) % p ≡ high % p → (t * 2 ^ 32) % p ≡ (low + m * square) % p
    → (t * 2 ^ 32) % p ≡ (low + 2 ^ 32 * high) % p
high_added p square m low high t a b c =
    let regrouped : m * 2 ^ 64 ≡ m * 2 ^ 32 * 2 ^ 32 = omega arith in
    let turned : high * 2 ^ 32 ≡ 2 ^ 32 * high = omega arith in
    let factor : (m * square) % p ≡ (2 ^ 32 * high) % p =
    sym (mul-mod_second m square p) ∙ ap (λ z. (m * z) % p) a ∙ mul-mod_second m (2 ^ 64) p ∙ ap (λ z. z % p) regrouped
    ∙ sym (mul-mod_first (m * 2 ^ 32) (2 ^ 32) p) ∙ ap (λ z. (z * 2 ^ 32) % p) b ∙ mul-mod_first high (2 ^ 32) p ∙ ap (λ z. z % p) turned in
    c ∙ sym (add-mod_second low (m * square) p) ∙ ap (λ z. (low + z) % p) factor ∙ add-mod_second low (2 ^ 32 * high) p

-- sums of at most 2^16 words are below p times 2^32, for p of at least 2^17
pub sum_short : (p n : ℕ) → 2 ^ 17 ≤ p → n ≤ 2 ^ 16 * (2 ^ 32 - 1) → n < p * 2 ^ 32
sum_short p n h k = omega (arith, h, k)

-- and so with the product of a residue by a number that is at most p
pub with_product_short : (p low m square : ℕ) → 2 ^ 17 ≤ p → p < 2 ^ 31 → low ≤ 2 ^ 16 * (2 ^ 32 - 1) → m < p → square ≤ p → low + m * square < p * 2 ^ 32
with_product_short p low m square h f k l s =
    let most = mul-le-mul (let a : m ≤ p = omega (arith, l) in a) (let b : square ≤ 2147483647 = omega (arith, s, f) in b) in
    omega (arith, most, h, k)

-- a sum of words and the product of two words below 2^31 fit 64 bits
pub fits_with_product : (low m square : ℕ) → low ≤ 2 ^ 16 * (2 ^ 32 - 1) → m < 2 ^ 31 → square < 2 ^ 31 → low + m * square < 2 ^ 64
fits_with_product low m square k l s =
    let most = mul-le-mul (let a : m ≤ 2147483647 = omega (arith, l) in a) (let b : square ≤ 2147483647 = omega (arith, s) in b) in
    omega (arith, most, k)

-- the words of a pair
pub low_is : (pair x y : ℕ) → x < 2 ^ 31 → pair ≡ x + 2 ^ 32 * y → pair % 2 ^ 32 ≡ x
low_is pair x y l e = omega (arith, l, e)

pub high_is : (pair x y : ℕ) → x < 2 ^ 31 → pair ≡ x + 2 ^ 32 * y → pair / 2 ^ 32 ≡ y
high_is pair x y l e = omega (arith, l, e)

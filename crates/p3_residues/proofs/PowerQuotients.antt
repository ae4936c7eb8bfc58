-- Quotients by powers of two modulo an odd number, and the powers of two in a number.
use Rattle.std.proofs.Common.{◌≡◌, ◌<◌, ◌≤◌, ◌+◌, ◌-◌, ◌*◌, ◌/◌, ◌%◌, ◌^◌, ℕ, zero, suc, ap, ap₂, arith, ◌∙◌, sym, subst}
use Rattle.std.specs.Int.{◌∣◌, trailing_zeros, w64}
use Rattle.std.proofs.Math.Nat.{
  add-mul-mod_self_left,
  add-mul-mod_self_right,
  dvd-mul_right,
  mod-add-div,
  mod-eq_of_lt,
  mod-mod_of_dvd,
  pow-le-pow_right,
  pow-suc,
  zero-mod,
}
use Rattle.std.proofs.lemmas.Nat.{mul-mod_first, mul-mod_second, pow-add}
use Rattle.std.proofs.lemmas.Nat.Bits.{bit_at-trailing_zeros}
use Rattle.std.proofs.lemmas.Nat.Gcd.{dvd_of_mod-eq-zero}
use Rattle.p3_theory.specs.ResidueRings.Modular.{add-mod_first, add-mod_second}
use Rattle.p3_theory.specs.Roots.PowersOfTwo.{low_zeros}

-- what is left of a product where it is computed modulo w step by step
pub squared : (m i w : ℕ) → (m * (i * ((m * i % w + 2) % w) % w) + 1) % w ≡ ((m * i + 1) * (m * i + 1)) % w
squared m i w =
    let inner : (i * ((m * i % w + 2) % w) % w) ≡ (i * (m * i + 2)) % w =
    ap (λ z. (i * z) % w) (add-mod_first (m * i) 2 w) ∙ mul-mod_second i (m * i + 2) w in
    let whole : m * (i * (m * i + 2)) + 1 ≡ (m * i + 1) * (m * i + 1) = omega arith in
    sym (add-mod_first (m * (i * ((m * i % w + 2) % w) % w)) 1 w)
    ∙ ap (λ z. (z + 1) % w) (ap (λ z. (m * z) % w) inner ∙ mul-mod_second m (i * (m * i + 2)) w)
    ∙ add-mod_first (m * (i * (m * i + 2))) 1 w ∙ ap (λ z. z % w) whole

-- the square of a multiple of p, taken modulo w, is a multiple of the square of p where w is
pub square_of_multiple : (p w x y : ℕ) → w % (p * p) ≡ 0 → y % w ≡ (x * x) % w → x % p ≡ 0 → y % (p * p) ≡ 0
square_of_multiple p w x y h e none =
    let divides : p * p ∣ w = dvd_of_mod-eq-zero (p * p) h in
    let k = x / p in
    let whole : x ≡ p * k = (let f = mod-add-div x p in omega (arith, f, none)) in
    let regrouped : p * k * (p * k) ≡ 0 + p * p * (k * k) = omega arith in
    sym (mod-mod_of_dvd (p * p) y divides) ∙ ap (λ z. z % (p * p)) e ∙ mod-mod_of_dvd (p * p) (x * x) divides
    ∙ ap (λ z. z % (p * p)) (ap₂ (λ a b. a * b) whole whole ∙ regrouped) ∙ add-mul-mod_self_left 0 (p * p) (k * k) ∙ zero-mod (p * p)

-- a power of two divides the greater ones
power_divides : (e d : ℕ) → e ≤ d → 2 ^ e ∣ 2 ^ d
power_divides e d h =
    let whole : d ≡ e + (d - e) = omega (arith, h) in
    subst (λ z. 2 ^ e ∣ z) (sym (ap (λ z. 2 ^ z) whole ∙ pow-add 2 e (d - e))) (dvd-mul_right (2 ^ e) (2 ^ (d - e)))

-- where m times i is -1 modulo 2^32, of a number r and an exponent of at most 32
module _ (m i r e : ℕ) (inverse : (m * i + 1) % 2 ^ 32 ≡ 0) (short : e ≤ 32) where
  abbrev factor : ℕ
  factor = r * i % 18446744073709551616 % (1 * 2 ^ e % 18446744073709551616)

  factor_is : factor ≡ (r * i) % 2 ^ e
  factor_is =
      let most : 2 ^ e ≤ 2 ^ 32 = pow-le-pow_right {n = 2} (omega arith) short in
      let once : 1 * 2 ^ e ≡ 2 ^ e = omega arith in
      ap (λ z. r * i % 18446744073709551616 % z) (mod-eq_of_lt (let b : 1 * 2 ^ e < 18446744073709551616 = omega (arith, most) in b) ∙ once)
      ∙ mod-mod_of_dvd (2 ^ e) (r * i) (power_divides e 64 (omega (arith, short)))

  -- the multiple of m by the factor and r make a multiple of the power
  is_multiple : (r + factor * m) % 2 ^ e ≡ 0
  is_multiple =
      let p = 2 ^ e in
      let k = (m * i + 1) / 2 ^ e in
      let none : (m * i + 1) % p ≡ 0 =
      sym (mod-mod_of_dvd p (m * i + 1) (power_divides e 32 short)) ∙ ap (λ z. z % p) inverse ∙ zero-mod p in
      let regrouped : r + r * i * m ≡ r * (m * i + 1) = omega arith in
      sym (add-mod_second r (factor * m) p) ∙ ap (λ z. (r + z) % p) (ap (λ z. (z * m) % p) factor_is ∙ mul-mod_first (r * i) m p)
      ∙ add-mod_second r (r * i * m) p ∙ ap (λ z. z % p) regrouped
      ∙ sym (mul-mod_second r (m * i + 1) p) ∙ ap (λ z. (r * z) % p) none ∙ ap (λ z. z % p) (let f : r * 0 ≡ 0 = omega arith in f) ∙ zero-mod p

  pub quotient_by_power : ((r + factor * m) / 2 ^ e * 2 ^ e) % m ≡ r % m
  quotient_by_power =
      let s = r + factor * m in
      let whole : s / 2 ^ e * 2 ^ e ≡ s = (let f = mod-add-div s (2 ^ e) in omega (arith, f, is_multiple)) in
      ap (λ z. z % m) whole ∙ add-mul-mod_self_right r factor m

-- a quotient by 2^32 first, where the exponent is greater
pub quotient_by_greater : (m a b r d : ℕ) → 32 < d → (b * 2 ^ 32) % m ≡ a % m → (r * 2 ^ (d - 32)) % m ≡ b % m → (r * 2 ^ d) % m ≡ a % m
quotient_by_greater m a b r d greater e f =
    let whole : d ≡ (d - 32) + 32 = omega (arith, greater) in
    let p = 2 ^ (d - 32) in
    let regrouped : r * (p * 2 ^ 32) ≡ r * p * 2 ^ 32 = omega arith in
    ap (λ z. (r * z) % m) (ap (λ z. 2 ^ z) whole ∙ pow-add 2 (d - 32) 32) ∙ ap (λ z. z % m) regrouped ∙ sym (mul-mod_first (r * p) (2 ^ 32) m)
    ∙ ap (λ z. (z * 2 ^ 32) % m) f ∙ mul-mod_first b (2 ^ 32) m ∙ e

-- modulo an odd number the powers of two cancel
module _ (n : ℕ) (odd : n % 2 ≡ 1) where
  once : (a : ℕ) → a % n ≡ ((n + 1) / 2 * ((2 * a) % n)) % n
  once a =
      let h = (n + 1) / 2 in
      let whole : 2 * h ≡ n + 1 = omega (arith, odd) in
      let regrouped : h * (2 * a) ≡ 2 * h * a = omega arith in
      let spread : (n + 1) * a ≡ a + n * a = omega arith in
      sym (mul-mod_second h (2 * a) n ∙ ap (λ z. z % n) (regrouped ∙ ap (λ z. z * a) whole ∙ spread) ∙ add-mul-mod_self_left a n a)

  two_cancels : (a b : ℕ) → (2 * a) % n ≡ (2 * b) % n → a % n ≡ b % n
  two_cancels a b e = once a ∙ ap (λ z. ((n + 1) / 2 * z) % n) e ∙ sym (once b)

  pub power_cancels : (k a b : ℕ) → (a * 2 ^ k) % n ≡ (b * 2 ^ k) % n → a % n ≡ b % n
  power_cancels zero a b e = (let f : a ≡ a * 2 ^ zero = omega arith in ap (λ z. z % n) f) ∙ e ∙ (let f : b * 2 ^ zero ≡ b = omega arith in ap (λ z. z % n) f)
  power_cancels (suc k) a b e =
      two_cancels a b (power_cancels k (2 * a) (2 * b) (ap (λ z. z % n) (sym (regrouped a)) ∙ e ∙ ap (λ z. z % n) (regrouped b)))
    where
      regrouped : (c : ℕ) → c * 2 ^ suc k ≡ 2 * c * 2 ^ k
      regrouped c = ap (λ z. c * z) (let p : 2 ^ suc k ≡ 2 * 2 ^ k = omega (arith, pow-suc 2 k) in p) ∙ (let f : c * (2 * 2 ^ k) ≡ 2 * c * 2 ^ k = omega arith in f)

-- a word is the power of two with its trailing zeros, times what is left of it by the shift
pub trailing_zeros_dropped : (n : ℕ) → 0 < n → n < 2 ^ 64 → n ≡ 2 ^ trailing_zeros w64 n * (n / 2 ^ trailing_zeros w64 n)
trailing_zeros_dropped n positive small = low_zeros (trailing_zeros w64 n) n (bit_at-trailing_zeros w64 n positive small).2

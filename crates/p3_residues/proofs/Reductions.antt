-- Montgomery's reduction modulo p, whose inverse modulo 2^32 is i.
use Rattle.std.proofs.Common.{◌≡◌, ◌<◌, ◌≤◌, ◌+◌, ◌-◌, ◌*◌, ◌/◌, ◌%◌, ◌^◌, ℕ, ap, arith, ◌∙◌, sym}
use Rattle.std.proofs.Math.Nat.{add-mul-mod_self_left, mod-add-div, mod-eq_of_lt, mod-lt, mul-le-mul, mul-one, zero-mod}
use Rattle.std.proofs.lemmas.Nat.{mul-mod_first, mul-mod_second}
use Rattle.p3_theory.specs.ResidueRings.Modular.{add-mod_second}

-- a product with a factor below p and a word is below p times 2^32
pub product_below : (p w v : ℕ) → w < p → v < 2 ^ 32 → w * v < p * 2 ^ 32
product_below p w v h k =
    let most = mul-le-mul (let a : w ≤ p - 1 = omega (arith, h) in a) (let b : v ≤ 4294967295 = omega (arith, k) in b) in
    omega (arith, most, h)

module _ (p i low : ℕ) (inverse : (p * i) % 2 ^ 32 ≡ 1) (word : low < 2 ^ 32) (positive : 0 < p) where
  abbrev factor : ℕ
  factor = (low * i) % 2 ^ 32

  -- the multiple of p by the factor ends in the bits of `low`
  pub same_end : (factor * p) % 2 ^ 32 ≡ low
  same_end =
      let regrouped : low * i * p ≡ low * (p * i) = omega arith in
      mul-mod_first (low * i) p (2 ^ 32) ∙ ap (λ z. z % 2 ^ 32) regrouped ∙ sym (mul-mod_second low (p * i) (2 ^ 32))
      ∙ ap (λ z. (low * z) % 2 ^ 32) inverse ∙ ap (λ z. z % 2 ^ 32) (mul-one low) ∙ mod-eq_of_lt word

  multiple_is : factor * p ≡ low + 2 ^ 32 * (factor * p / 2 ^ 32)
  multiple_is = let e = mod-add-div (factor * p) (2 ^ 32) in omega (arith, e, same_end)

  factor_below : factor < 2 ^ 32
  factor_below = mod-lt (low * i) (omega arith)

  -- what stands above these bits is below p
  pub multiple_below : factor * p / 2 ^ 32 < p
  multiple_below =
      let most = mul-le-mul (let a : factor ≤ 4294967295 = omega (arith, factor_below) in a) (let b : p ≤ p = omega arith in b) in
      omega (arith, most, multiple_is, positive)

  -- a number less it, without these bits
  less_multiple : (high u f k : ℕ) → f * p ≡ low + 2 ^ 32 * u → u < p → f + k ≡ 2 ^ 32 → (high + (p - u)) * 2 ^ 32 ≡ (low + 2 ^ 32 * high) + p * k
  less_multiple high u f k whole below e =
      let full : p * (f + k) ≡ p * 2 ^ 32 = ap (λ z. p * z) e in
      omega (arith, whole, below, full)

  pub reduced : (high t : ℕ) → t ≡ (high + (p - factor * p / 2 ^ 32)) % p → (t * 2 ^ 32) % p ≡ (low + 2 ^ 32 * high) % p
  reduced high t e =
      let u = factor * p / 2 ^ 32 in
      let k = 2 ^ 32 - factor in
      ap (λ z. (z * 2 ^ 32) % p) e ∙ mul-mod_first (high + (p - u)) (2 ^ 32) p
      ∙ ap (λ z. z % p) (less_multiple high u factor k multiple_is multiple_below (omega (arith, factor_below)))
      ∙ add-mul-mod_self_left (low + 2 ^ 32 * high) p k

pub multiple_of : (p f : ℕ) → (f * p) % p ≡ 0
multiple_of p f =
    let turned : f * p ≡ 0 + p * f = omega arith in
    ap (λ z. z % p) turned ∙ add-mul-mod_self_left 0 p f ∙ zero-mod p

-- a number and what a multiple of p is more have one remainder
pub with_multiple : (p r k n : ℕ) → n ≡ r + p * k → n % p ≡ r % p
with_multiple p r k n e = ap (λ z. z % p) e ∙ add-mul-mod_self_left r p k

-- modulo p its multiples count nothing
pub without_multiple : (p t m n : ℕ) → m % p ≡ 0 → (t + m) % p ≡ n % p → t % p ≡ n % p
without_multiple p t m n none e =
    let same : t ≡ t + 0 = omega arith in
    ap (λ z. z % p) same ∙ ap (λ z. (t + z) % p) (sym none) ∙ add-mod_second t m p ∙ e

-- what stands above 32 bits may be reduced first
pub high_reduced : (p low rest : ℕ) → (low + 2 ^ 32 * (rest % p)) % p ≡ (low + 2 ^ 32 * rest) % p
high_reduced p low rest =
    sym (add-mod_second low (2 ^ 32 * (rest % p)) p) ∙ ap (λ z. (low + z) % p) (mul-mod_second (2 ^ 32) rest p) ∙ add-mod_second low (2 ^ 32 * rest) p

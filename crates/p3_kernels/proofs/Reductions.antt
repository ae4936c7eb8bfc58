-- Montgomery's reduction of a number: with a multiple of p that ends it in zeros, where p times j is minus one
-- modulo 2^32, and less a multiple that ends in the same bits, where p times i is one.
use Rattle.std.proofs.Common.{◌≡◌, ◌<◌, ◌≤◌, ◌+◌, ◌-◌, ◌*◌, ◌/◌, ◌%◌, ◌^◌, ℕ, ap, arith, ◌∙◌, sym, zero, suc}
use Rattle.std.proofs.Math.Nat.{add-mul-mod_self_left, mod-add-div, mod-lt, mul-le-mul, mul-zero, zero-mod}
use Rattle.std.proofs.lemmas.Nat.{mul-mod_first, mul-mod_second}
use Rattle.p3_residues.proofs.Reductions.{high_reduced, multiple_below, reduced as reduced_difference}
use Rattle.p3_kernels.specs.Pairs.{multiple}

negated_by : (p i k : ℕ) → (p * i) % 2 ^ 32 ≡ 1 → k + i ≡ 2 ^ 32 → (1 + p * (k % 2 ^ 32)) % 2 ^ 32 ≡ 0
negated_by p i k e whole =
    let full : p * (k + i) ≡ p * 2 ^ 32 = ap (λ z. p * z) whole in
    let cut : (p * (k % 2 ^ 32)) % 2 ^ 32 ≡ (p * k) % 2 ^ 32 = mul-mod_second p k (2 ^ 32) in
    omega (arith, e, full, cut)

-- the negated inverse, as zero less the inverse wraps
pub negated : (p i : ℕ) → (p * i) % 2 ^ 32 ≡ 1 → i < 2 ^ 32 → (1 + p * ((0 + (2 ^ 32 - i)) % 2 ^ 32)) % 2 ^ 32 ≡ 0
negated p i e l =
    let same : 0 + (2 ^ 32 - i) ≡ 2 ^ 32 - i = omega arith in
    ap (λ z. (1 + p * (z % 2 ^ 32)) % 2 ^ 32) same ∙ negated_by p i (2 ^ 32 - i) e (omega (arith, l))

-- an order with an inverse is above zero
pub positive : (p i : ℕ) → (p * i) % 2 ^ 32 ≡ 1 → 0 < p
positive zero i e = absurd (let f : (0 * i) % 2 ^ 32 ≡ 1 = e in omega (arith, f))
positive (suc p) i e = omega arith

module _ (p j w : ℕ) (minus_one : (1 + p * j) % 2 ^ 32 ≡ 0) where
  abbrev low : ℕ
  low = w % 2 ^ 32

  abbrev factor : ℕ
  factor = (low * j) % 2 ^ 32

  ends : (low + factor * p) % 2 ^ 32 ≡ 0
  ends =
      let first : (factor * p) % 2 ^ 32 ≡ (low * j * p) % 2 ^ 32 = mul-mod_first (low * j) p (2 ^ 32) in
      let grouped : low + low * j * p ≡ low * (1 + p * j) = omega arith in
      let none : (low * (1 + p * j)) % 2 ^ 32 ≡ 0 =
      sym (mul-mod_second low (1 + p * j) (2 ^ 32)) ∙ ap (λ z. (low * z) % 2 ^ 32) minus_one ∙ ap (λ z. z % 2 ^ 32) (mul-zero low) ∙ zero-mod (2 ^ 32) in
      omega (arith, first, grouped, none)

  divides : w + multiple p j w ≡ 2 ^ 32 * ((w + multiple p j w) / 2 ^ 32)
  divides = omega (arith, ends)

  -- what stands above the zeros, times 2^32
  pub reduced : ((w + multiple p j w) / 2 ^ 32 * 2 ^ 32) % p ≡ w % p
  reduced =
      let whole : (w + multiple p j w) / 2 ^ 32 * 2 ^ 32 ≡ w + p * factor = omega (arith, divides) in
      ap (λ z. z % p) whole ∙ add-mul-mod_self_left w p factor

factor_below : (p f : ℕ) → f < 2 ^ 32 → f * p ≤ 4294967295 * p
factor_below p f l = mul-le-mul (let a : f ≤ 4294967295 = omega (arith, l) in a) (let b : p ≤ p = omega arith in b)

-- what stands above 32 bits is below twice p
pub high_below : (p j w : ℕ) → w < p * 2 ^ 32 → (w + multiple p j w) / 2 ^ 32 < p + p
high_below p j w h =
    let most = factor_below p ((w % 2 ^ 32 * j) % 2 ^ 32) (mod-lt (w % 2 ^ 32 * j) (omega arith)) in
    omega (arith, most, h)

-- and the number fits 64 bits
pub number_fits : (p j w : ℕ) → p < 2 ^ 31 → w < p * 2 ^ 32 → w + multiple p j w < 2 ^ 64
number_fits p j w o h =
    let most = factor_below p ((w % 2 ^ 32 * j) % 2 ^ 32) (mod-lt (w % 2 ^ 32 * j) (omega arith)) in
    omega (arith, most, h, o)

-- what stands above 32 bits of a sum of four products
pub high_of_sum : (p s : ℕ) → s < 2 ^ 33 * p → s / 2 ^ 32 < p + p
high_of_sum p s h = omega (arith, h)

module _ (p i : ℕ) (inverse : (p * i) % 2 ^ 32 ≡ 1) (some : 0 < p) where
  low_fits : (s : ℕ) → s % 2 ^ 32 < 2 ^ 32
  low_fits s = mod-lt s (omega arith)

  -- what stands above the low 32 bits of the multiple
  pub end_below : (s : ℕ) → multiple p i s / 2 ^ 32 < p
  end_below s = multiple_below p i (s % 2 ^ 32) inverse (low_fits s) some

  pub end_fits : (s : ℕ) → p < 2 ^ 31 → multiple p i s < 2 ^ 64
  end_fits s o = let b = end_below s in omega (arith, b, o)

  -- the difference of what stands above, times 2^32
  pub sum_reduced : (s t : ℕ) → t ≡ ((s / 2 ^ 32) % p + (p - multiple p i s / 2 ^ 32)) % p → (t * 2 ^ 32) % p ≡ s % p
  sum_reduced s t e =
      reduced_difference p i (s % 2 ^ 32) inverse (low_fits s) some ((s / 2 ^ 32) % p) t e
      ∙ high_reduced p (s % 2 ^ 32) (s / 2 ^ 32)
      ∙ ap (λ z. z % p) (mod-add-div s (2 ^ 32))

one_below : (p a b : ℕ) → p < 2 ^ 31 → a < p → b < p → a * b + p ≤ 2 ^ 31 * p
one_below p a b o h k =
    let most = mul-le-mul (let f : a ≤ p - 1 = omega (arith, h) in f) (let g : b ≤ 2147483646 = omega (arith, k, o) in g) in
    omega (arith, most, h)

-- a product of two residues fits 62 bits
pub product_short : (p a b : ℕ) → p < 2 ^ 31 → a < p → b < p → a * b < 2 ^ 62
product_short p a b o h k = let m = one_below p a b o h k in omega (arith, m, o, h)

-- the sum of four products of residues
pub four_below : (p a b c d e f g h : ℕ) → p < 2 ^ 31 → a < p → b < p → c < p → d < p → e < p → f < p → g < p → h < p
    → a * e + b * f + (c * g + d * h) < 2 ^ 33 * p
four_below p a b c d e f g h o la lb lc ld le lf lg lh =
    let u = one_below p a e o la le in
    let v = one_below p b f o lb lf in
    let w = one_below p c g o lc lg in
    let x = one_below p d h o ld lh in
    omega (arith, u, v, w, x, la)

-- Remainders by a product with the reciprocal of the modulus, in units of 1/N and rounded up; remainders of numbers of two words.
use Rattle.std.proofs.Common.{◌≡◌, ◌<◌, ◌≤◌, ◌+◌, ◌-◌, ◌*◌, ◌/◌, ◌%◌, ◌^◌, ℕ, ap, arith, ◌∙◌, sym, subst}
use Rattle.std.specs.Int.{div_ceil}
use Rattle.std.proofs.Math.Nat.{
  div-eq_of_lt-le,
  div-mul-le_self,
  lt-div-mul-add,
  mul-le-mul,
  mul-le-mul_left,
  mul-le-mul_right,
  le_of_mul-le-mul_right,
  lt_of_mul-lt-mul_right,
  mod-eq-sub-div-mul,
  mod-eq_of_lt,
  mod-lt,
  div-add-mod,
  add-mul-mod_self_left,
}
use Rattle.std.proofs.lemmas.Nat.{pow-add, mul-mod_first}
use Rattle.std.proofs.lemmas.Grind.{div_ceil_times}
use Rattle.p3_theory.specs.ResidueRings.Modular.{add-mod_first, add-mod_second}

-- the product with the reciprocal has the quotient above the point
quotient_by : (x n N M : ℕ) → 0 < n → N ≤ M * n → M * n < N + n → x * n < N → x * M / N ≡ x / n
quotient_by x n N M positive low high fits =
    let k = x / n in
    let under = mul-le-mul_right N (div-mul-le_self x n) in
    let over = mul-le-mul_right N (let h = lt-div-mul-add {a = x} positive in let e : x + 1 ≤ k * n + n = omega (arith, h) in e) in
    let above = mul-le-mul_left x low in
    let below = mul-le-mul_left x (let h : M * n ≤ N + n = omega (arith, high) in h) in
    let least : k * N * n ≤ x * M * n = omega (arith, under, above) in
    let most : x * M * n < (k + 1) * N * n = omega (arith, over, below, fits) in
    div-eq_of_lt-le {k = k} N (le_of_mul-le-mul_right least positive) (lt_of_mul-lt-mul_right n most)

-- of a number below 2^62 and a modulus from 2^j up to twice that, in units of 1 / 2^(64 + j)
module _ (x n j M : ℕ) (below : x < 2 ^ 62) (least : 2 ^ j ≤ n) (most : n < 2 * 2 ^ j) (small : n < 2 ^ 31)
    (reciprocal : M ≡ div_ceil (1 * 2 ^ (64 + j) % 2 ^ 128) n) where
  abbrev N : ℕ
  N = 2 ^ (64 + j)

  split : N ≡ 18446744073709551616 * 2 ^ j
  split = pow-add 2 64 j

  positive : 0 < n
  positive = omega (arith, least, most)

  unit : 1 * N % 2 ^ 128 ≡ N
  unit = ap (λ z. z % 2 ^ 128) (let e : 1 * N ≡ N = omega arith in e) ∙ mod-eq_of_lt (let e = split in omega (arith, e, least, small))

  bounds : (N ≤ M * n) × (M * n < N + n)
  bounds = subst (λ z. (N ≤ z * n) × (z * n < N + n)) (sym (reciprocal ∙ ap (λ z. div_ceil z n) unit)) (div_ceil_times N n positive)

  -- the reciprocal is a word
  word : M ≤ 2 ^ 64
  word =
      let b = bounds.1 in
      let e = split in
      let wide = mul-le-mul_left 18446744073709551616 least in
      let h : M * n < 18446744073709551617 * n = omega (arith, b, e, wide) in
      let m = lt_of_mul-lt-mul_right n h in
      omega (arith, m)

  pub product_fits : x * M < 2 ^ 128
  product_fits = let h = mul-le-mul (let a : x ≤ 2 ^ 62 = omega (arith, below) in a) word in omega (arith, h)

  room : x * n < N
  room =
      let h = mul-le-mul (let a : x ≤ 4611686018427387903 = omega (arith, below) in a) (let a : n ≤ 2 * 2 ^ j = omega (arith, most) in a) in
      let e = split in
      omega (arith, h, e, most)

  pub quotient_by_reciprocal : x * M / N ≡ x / n
  quotient_by_reciprocal = quotient_by x n N M positive bounds.0 bounds.1 room

  -- what is left of the number
  pub back_below : x * M / N * n ≤ x
  back_below = rw quotient_by_reciprocal (div-mul-le_self x n)

  pub remainder_by_reciprocal : x - x * M / N * n ≡ x % n
  remainder_by_reciprocal = ap (λ q. x - q * n) quotient_by_reciprocal ∙ sym (mod-eq-sub-div-mul x n)

  pub remainder_below : x - x * M / N * n < n
  remainder_below = rw remainder_by_reciprocal (mod-lt x positive)

-- the high word, reduced, counts 2^64 modulo n
pub words_reduced : (n low high : ℕ) → (high % n * (18446744073709551615 % n + 1) + low % n) % n ≡ (low + 2 ^ 64 * high) % n
words_reduced n low high =
    let w = 18446744073709551615 % n + 1 in
    let q = 18446744073709551615 / n in
    let whole : n * q + w ≡ 2 ^ 64 = (let e = div-add-mod 18446744073709551615 n in omega (arith, e)) in
    let regrouped : low + (n * q + w) * high ≡ (high * w + low) + n * (q * high) = omega arith in
    add-mod_second (high % n * w) low n ∙ sym (add-mod_first (high % n * w) low n)
    ∙ ap (λ z. (z + low) % n) (mul-mod_first high w n) ∙ add-mod_first (high * w) low n
    ∙ sym (ap (λ z. (low + z * high) % n) (sym whole) ∙ ap (λ z. z % n) regrouped ∙ add-mul-mod_self_left (high * w + low) n (q * high))

-- it stays below 2^62
pub words_below : (n low high : ℕ) → 0 < n → n < 2 ^ 31 → high % n * (18446744073709551615 % n + 1) + low % n < 2 ^ 62
words_below n low high positive small =
    let a = mod-lt high positive in
    let b = mod-lt 18446744073709551615 positive in
    let c = mod-lt low positive in
    let h = mul-le-mul (let e : high % n ≤ 2147483646 = omega (arith, a, small) in e) (let e : 18446744073709551615 % n + 1 ≤ 2147483647 = omega (arith, b, small) in e) in
    omega (arith, h, c, small)

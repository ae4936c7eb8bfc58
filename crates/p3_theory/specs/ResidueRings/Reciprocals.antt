-- Remainders by two products: that with the reciprocal of the modulus, in units of 1 / 2^16 and rounded up, and that of
-- the modulus with the low 16 bits of it.
use Rattle.std.proofs.Common.{◌≡◌, ℕ, ◌+◌, ◌-◌, ◌*◌, ◌/◌, ◌%◌, ◌^◌, ◌<◌, ◌≤◌, arith, ◌∙◌, ap}
use Rattle.std.proofs.Math.Nat.{
  div-add-mod,
  div-mul-le_self,
  le_of_mul-le-mul_right,
  lt_of_mul-lt-mul_right,
  mod-lt,
  mul-le-mul_left,
  mul-le-mul_right,
}
use Rattle.std.proofs.lemmas.Nat.{mul-mod_second}

-- the low 16 bits of a product with the reciprocal M, which is (2^16 + e) / p: they are the rest r of x, and x e / p
module _ (x p M e q r : ℕ) (inverse : M * p ≡ 65536 + e) (less : e < p) (divided : x ≡ q * p + r) (rest : r < p) (short : x * p < 65536) where
  multiplied : x * (M * p) ≡ x * (65536 + e)
  multiplied = ap (λ z. x * z) inverse

  excess : x * e ≤ x * p
  excess = mul-le-mul_left x (let h : e ≤ p = omega (arith, less) in h)

  quotient_least : 65536 * q ≤ x * M
  quotient_least =
      let h : 65536 * q * p ≤ x * M * p = omega (arith, multiplied, divided) in
      le_of_mul-le-mul_right h (let z : 0 < p = omega (arith, less) in z)

  quotient_most : x * M < 65536 * (q + 1)
  quotient_most =
      let h : x * M * p < 65536 * (q + 1) * p = omega (arith, multiplied, divided, rest, excess, short) in
      lt_of_mul-lt-mul_right p h

  fraction_is : (x * M) % 65536 + 65536 * q ≡ x * M
  fraction_is = omega (arith, quotient_least, quotient_most)

  of_fraction : (f : ℕ) → f + 65536 * q ≡ x * M → f * p / 65536 ≡ r
  of_fraction f h =
      let g : (f + 65536 * q) * p ≡ x * M * p = ap (λ z. z * p) h in
      let whole : f * p ≡ 65536 * r + x * e = omega (arith, g, multiplied, divided) in
      omega (arith, whole, excess, short)

  rest_by_fraction : (x * M) % 65536 * p / 65536 ≡ r
  rest_by_fraction = of_fraction ((x * M) % 65536) fraction_is

-- the reciprocal, rounded up
module _ (p : ℕ) (some : 0 < p) where
  abbrev over : ℕ
  over = p - 1 - 65535 % p

  rounded : (65535 / p + 1) * p ≡ 65536 + over
  rounded =
      let d : p * (65535 / p) + 65535 % p ≡ 65535 = div-add-mod 65535 p in
      let l = mod-lt 65535 some in
      omega (arith, d, l)

  over_less : over < p
  over_less = omega (arith, some)

  -- as a word of 16 bits
  pub remainder_by_reciprocal : (x : ℕ) → x * p < 2 ^ 16 → (x * ((65535 / p + 1) % 2 ^ 16)) % 2 ^ 16 * p / 2 ^ 16 ≡ x % p
  remainder_by_reciprocal x short =
      let d : x ≡ x / p * p + x % p = (let h : p * (x / p) + x % p ≡ x = div-add-mod x p in omega (arith, h)) in
      ap (λ z. z * p / 2 ^ 16) (mul-mod_second x (65535 / p + 1) (2 ^ 16))
      ∙ rest_by_fraction x p (65535 / p + 1) over (x / p) (x % p) rounded over_less d (mod-lt x some) short

-- numbers up to a bound whose product with p has 16 bits
pub products_short : (p most x : ℕ) → x ≤ most → most ≤ 65535 / p → x * p < 2 ^ 16
products_short p most x l m =
    let h = mul-le-mul_right p (let g : x ≤ 65535 / p = omega (arith, l, m) in g) in
    let d : 65535 / p * p ≤ 65535 = div-mul-le_self 65535 p in
    omega (arith, h, d)

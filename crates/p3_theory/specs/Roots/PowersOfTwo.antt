-- The power of two in a number.
use Rattle.std.specs.Prelude.{◌≡◌, ◌≢◌, ℕ, ◌+◌, ◌*◌, ◌/◌, ◌%◌, ◌^◌, ◌<◌, ◌≤◌, zero, suc, List, [], ◌∷◌, length, Option, Some, None, refl}
use Rattle.std.proofs.Common.{sym, ap, ◌∙◌, arith, inl, inr}
use Rattle.std.proofs.lemmas.Bool.{cases_lt}
use Rattle.std.proofs.Math.Nat.{pow-suc, mul_comm, pow-le-pow_right}
use Rattle.std.proofs.lemmas.Nat.{shr-shr, shl-shr, mul-le}
use Rattle.std.proofs.lemmas.Nat.Bits.{bit_at-trailing_zeros, bit_at-suc, bit_at_lowest}
use Rattle.std.specs.Int.{bit_at, trailing_zeros, w128}
use Rattle.p3_theory.specs.Roots.TwoAdic.{DividesOrder}
use Rattle.p3_theory.specs.Roots.ValueLists.{IsIn, ValueList}

-- where its lowest s bits are zero, a number is a multiple of 2^s
pub low_zeros : (s n : ℕ) → ((i : ℕ) → i < s → bit_at n i ≡ 0) → n ≡ 2 ^ s * (n / 2 ^ s)
low_zeros zero n h = omega arith
low_zeros (suc s) n h =
    let even : n % 2 ≡ 0 = sym (bit_at_lowest n) ∙ h 0 (omega arith) in
    let ih = low_zeros s (n / 2) (λ i k. sym (bit_at-suc n i) ∙ h (suc i) (omega arith)) in
    let down : n / 2 / 2 ^ s ≡ n / 2 ^ (1 + s) = shr-shr n 1 s in
    let up : 1 + s ≡ suc s = omega arith in
    let half : n / 2 ≡ 2 ^ s * (n / 2 ^ suc s) = ih ∙ ap (λ k. 2 ^ s * k) (down ∙ ap (λ k. n / 2 ^ k) up) in
    let p : 2 ^ suc s ≡ 2 ^ s + 2 ^ s = omega (arith, pow-suc 2 s) in
    let q : 2 ^ suc s * (n / 2 ^ suc s) ≡ (2 ^ s + 2 ^ s) * (n / 2 ^ suc s) = ap (λ k. k * (n / 2 ^ suc s)) p in
    omega arith

-- a number is the power of two with its trailing zeros, times an odd number
pub trailing_split : (n : ℕ) → 0 < n → n < 2 ^ 128
    → (trailing_zeros w128 n < 128) × (n ≡ 2 ^ trailing_zeros w128 n * (n / 2 ^ trailing_zeros w128 n)) × ((n / 2 ^ trailing_zeros w128 n) % 2 ≡ 1)
trailing_split n pos small =
    let w = bit_at-trailing_zeros w128 n pos small in
    (w.0, low_zeros (trailing_zeros w128 n) n w.2, w.1)

-- only one power of two leaves an odd quotient
pub split_unique : (s q s' q' : ℕ) → 2 ^ s * q ≡ 2 ^ s' * q' → q % 2 ≡ 1 → q' % 2 ≡ 1 → (s ≡ s') × (q ≡ q')
split_unique zero q zero q' h p p' = (refl, omega arith)
split_unique zero q (suc s') q' h p p' =
    let t : 2 ^ suc s' * q' ≡ (2 ^ s' + 2 ^ s') * q' = ap (λ k. k * q') (omega (arith, pow-suc 2 s')) in
    absurd (omega arith)
split_unique (suc s) q zero q' h p p' =
    let t : 2 ^ suc s * q ≡ (2 ^ s + 2 ^ s) * q = ap (λ k. k * q) (omega (arith, pow-suc 2 s)) in
    absurd (omega arith)
split_unique (suc s) q (suc s') q' h p p' =
    let t : 2 ^ suc s * q ≡ (2 ^ s + 2 ^ s) * q = ap (λ k. k * q) (omega (arith, pow-suc 2 s)) in
    let t' : 2 ^ suc s' * q' ≡ (2 ^ s' + 2 ^ s') * q' = ap (λ k. k * q') (omega (arith, pow-suc 2 s')) in
    let ih = split_unique s q s' q' (omega arith) p p' in
    (ap suc ih.0, ih.1)

-- the quotient by a power of two that divides
pub quotient_is : (n s q : ℕ) → n ≡ 2 ^ s * q → q ≡ n / 2 ^ s
quotient_is n s q h = sym (ap (λ k. k / 2 ^ s) (h ∙ mul_comm (2 ^ s) q) ∙ shl-shr q s)

-- a power of two that divides a positive number of 128 bits is of fewer bits, and the quotient is positive
pub divided : (n s q : ℕ) → 0 < n → n < 2 ^ 128 → n ≡ 2 ^ s * q → (s < 128) × (0 < n / 2 ^ s)
divided n s q more small h =
    let pos : 0 < q = elim (cases_lt 0 q) [
      | inl p ↦ p
      | inr p ↦ (let none : q ≡ 0 = omega arith in let gone : 2 ^ s * q ≡ 2 ^ s * 0 = ap (λ k. 2 ^ s * k) none in absurd (omega arith))
    ] in
    let few : s < 128 = elim (cases_lt s 128) [
      | inl p ↦ p
      | inr p ↦ (let two : 0 < 2 = omega arith in let up : 2 ^ 128 ≤ 2 ^ s = pow-le-pow_right two p in let wide : 2 ^ s * 1 ≤ 2 ^ s * q = mul-le (2 ^ s) 1 (2 ^ s) q (omega arith) (omega arith) in absurd (omega arith))
    ] in
    (few, omega (arith, pos, quotient_is n s q h))

-- what divides a given order less one, as a number
pub divides_where_given : (size : Option ℕ) (s m : ℕ) → size ≡ Some (m + 1) → DividesOrder s size → (q : ℕ) × (m ≡ 2 ^ s * q)
divides_where_given None s m h d = absurd (cc h)
divides_where_given (Some n) s m h d = (d.0, (let e : n ≡ m + 1 = cc h in omega (arith, e, d.1)))

-- where two values differ, there are at least two
pub at_least_two : {A : Type 0} {n : ℕ} (x y : A) → x ≢ y → ValueList A n → 1 < n
at_least_two {A} {n} x y apart values = omega (arith, counted values.list values.every, values.counted)
  where
    counted : (xs : List A) → ((z : A) → IsIn z xs) → 1 < length xs
    counted [] every = absurd (every x)
    counted (z ∷ []) every =
        elim (every x) [ inl p ↦ elim (every y) [ inl q ↦ absurd (apart (p ∙ sym q)) | inr q ↦ absurd q ] | inr p ↦ absurd p ]
    counted (z ∷ w ∷ xs) every = omega arith

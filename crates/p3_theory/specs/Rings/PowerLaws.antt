-- What the laws of a ring give of powers.
use Rattle.std.proofs.Common.{◌≡◌, ℕ, ◌+◌, ◌/◌, ◌%◌, ◌≢◌, zero, suc, refl, sym, ap, ◌∙◌, arith}
use Rattle.p3_theory.specs.Rings.Ring.{Ops, RingLaws}
use Rattle.p3_theory.specs.Rings.Powers.{power}

module _ {A : Type 0} {O : Ops A} (l : RingLaws O) where
  pub power-add : (x : A) (m n : ℕ) → power O x (m + n) ≡ O.mul (power O x m) (power O x n)
  power-add x zero n = (let e : zero + n ≡ n = omega arith in ap (power O x) e) ∙ sym (l.mul_comm O.one _ ∙ l.mul_one _)
  power-add x (suc m) n = (let e : suc m + n ≡ suc (m + n) = omega arith in ap (power O x) e) ∙ ap (O.mul x) (power-add x m n) ∙ sym (l.mul_assoc _ _ _)

  pub power-one : (x : A) → power O x 1 ≡ x
  power-one x = l.mul_one x

  pub power-square : (x : A) (n : ℕ) → power O (O.mul x x) n ≡ power O x (n + n)
  power-square x zero = refl
  power-square x (suc n) =
      let more : suc n + suc n ≡ suc (suc (n + n)) = omega arith in
      ap (O.mul (O.mul x x)) (power-square x n) ∙ l.mul_assoc x x (power O x (n + n)) ∙ sym (ap (power O x) more)

  -- a step of binary powering at an even exponent, and at an odd one
  pub power-even : (x : A) (n : ℕ) → n % 2 ≢ 1 → power O (O.mul x x) (n / 2) ≡ power O x n
  power-even x n h =
      let same : n / 2 + n / 2 ≡ n = omega arith in
      power-square x (n / 2) ∙ ap (power O x) same

  pub power-odd : (x : A) (n : ℕ) → n % 2 ≡ 1 → O.mul x (power O (O.mul x x) (n / 2)) ≡ power O x n
  power-odd x n h =
      let same : suc (n / 2 + n / 2) ≡ n = omega arith in
      ap (O.mul x) (power-square x (n / 2)) ∙ ap (power O x) same

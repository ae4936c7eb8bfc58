-- Roots of unity whose orders are powers of two.
use Rattle.std.specs.Prelude.{◌≡◌, ◌<◌, ◌+◌, ◌-◌, ◌*◌, ◌^◌, ℕ, zero, suc, Option, Some, None, refl}
use Rattle.std.proofs.Common.{ap, arith, ◌∙◌, sym}
use Rattle.std.proofs.Math.Nat.{pow-suc}
use Rattle.p3_theory.specs.Rings.Ring.{Ops, RingLaws}
use Rattle.p3_theory.specs.Rings.Powers.{power}
use Rattle.p3_theory.specs.Rings.PowerLaws.{power-add, power-one}

-- g 0 is one, the square of each g (k + 1) up to g s is g k, and g 1 is minus one where s is above 0
pub record AreTwoAdicGenerators {A : Type 0} (O : Ops A) (s : ℕ) (g : ℕ → A) : Type 0 where
  pub trivial : g 0 ≡ O.one
  pub squares : (k : ℕ) → k < s → O.mul (g (suc k)) (g (suc k)) ≡ g k
  pub minus_one : 0 < s → g 1 ≡ O.neg O.one

-- 2 to the power s divides the order less one, where the order is given
abbrev pub DividesOrder : ℕ → Option ℕ → Type 0
DividesOrder s None = Unit {0}
DividesOrder s (Some n) = (q : ℕ) × (n - 1 ≡ 2 ^ s * q)

-- what top gives by repeated squares, from the last index backward
abbrev pub repeated_squares : {A : Type 0} → Ops A → ℕ → A → ℕ → A
repeated_squares O s top k = power O top (2 ^ (s - k))

-- the repeated squares of top are such roots, where the power 2^(s - 1) of top is minus one
module _ {A : Type 0} {O : Ops A} (l : RingLaws O) where
  pub repeated_squares_generate : (s : ℕ) (top : A) → (s ≡ 0 → top ≡ O.one) → (0 < s → power O top (2 ^ (s - 1)) ≡ O.neg O.one)
      → O.mul (O.neg O.one) (O.neg O.one) ≡ O.one → AreTwoAdicGenerators O s (repeated_squares O s top)
  repeated_squares_generate s top none half square = record {
    trivial = at_zero s none half;
    squares = λ k below.
        let e : 2 ^ (s - suc k) + 2 ^ (s - suc k) ≡ 2 ^ (s - k) = double (s - suc k) (s - k) (omega (arith, below)) in
        sym (power-add l top (2 ^ (s - suc k)) (2 ^ (s - suc k))) ∙ ap (power O top) e;
    minus_one = half;
  }
    where
      double : (a b : ℕ) → b ≡ suc a → 2 ^ a + 2 ^ a ≡ 2 ^ b
      double a b e = omega (arith, pow-suc 2 a) ∙ sym (ap (λ n. 2 ^ n) e)

      at_zero : (s : ℕ) → (s ≡ 0 → top ≡ O.one) → (0 < s → power O top (2 ^ (s - 1)) ≡ O.neg O.one) → power O top (2 ^ (s - 0)) ≡ O.one
      at_zero zero none half = power-one l top ∙ none refl
      at_zero (suc s) none half =
          let last : suc s - 1 ≡ s = omega arith in
          let h : power O top (2 ^ s) ≡ O.neg O.one = sym (ap (λ n. power O top (2 ^ n)) last) ∙ half (omega arith) in
          let whole : suc s - 0 ≡ suc s = omega arith in
          ap (λ n. power O top (2 ^ n)) whole ∙ ap (power O top) (sym (double s (suc s) refl)) ∙ power-add l top (2 ^ s) (2 ^ s) ∙ ap (λ v. O.mul v v) h ∙ square

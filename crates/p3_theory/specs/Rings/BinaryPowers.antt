-- Powers by the binary digits of the exponent: numbers compute them quickly.
use Rattle.std.specs.Prelude.{◌≡◌, ◌<◌, ◌/◌, ◌%◌, ◌^◌, ◌==◌, Bool, true, false, ℕ, zero, suc, if◌then◌else◌, refl}
use Rattle.std.proofs.Common.{ap, arith, ◌∙◌, eqb-true, eq-eqb}
use Rattle.std.proofs.Math.Nat.{pow-suc}
use Rattle.p3_theory.specs.Rings.Ring.{Ops, RingLaws, Hom}
use Rattle.p3_theory.specs.Rings.Powers.{power}
use Rattle.p3_theory.specs.Rings.PowerLaws.{power-even, power-odd}

-- x times r where the digit is one, and r where it is not
abbrev pub times_digit : {A : Type 0} → Ops A → Bool → A → A → A
times_digit O b x r = if b then O.mul x r else r

-- x to the power n, which has at most so many binary digits
abbrev pub binary_power : {A : Type 0} → Ops A → ℕ → A → ℕ → A
binary_power O zero x n = O.one
binary_power O (suc digits) x n = times_digit O (n % 2 == 1) x (binary_power O digits (O.mul x x) (n / 2))

-- it is the power, in every ring
module _ {A : Type 0} {O : Ops A} (l : RingLaws O) where
  last_digit : (b : Bool) (x : A) (n : ℕ) → (b ≡ true → n % 2 ≡ 1) → (n % 2 ≡ 1 → b ≡ true)
      → times_digit O b x (power O (O.mul x x) (n / 2)) ≡ power O x n
  last_digit true x n odd even = power-odd l x n (odd refl)
  last_digit false x n odd even = power-even l x n (λ e. absurd (cc (even e)))

  pub binary_power-is : (digits : ℕ) (x : A) (n : ℕ) → n < 2 ^ digits → binary_power O digits x n ≡ power O x n
  binary_power-is zero x n h = let e : 0 ≡ n = omega (arith, h) in ap (power O x) e
  binary_power-is (suc digits) x n h =
      let below : n / 2 < 2 ^ digits = omega (arith, pow-suc 2 digits, h) in
      ap (times_digit O (n % 2 == 1) x) (binary_power-is digits (O.mul x x) (n / 2) below)
      ∙ last_digit (n % 2 == 1) x n (eqb-true (n % 2) 1) (eq-eqb (n % 2) 1)

-- it goes along with a map that keeps the operations
module _ {A B : Type 0} {O : Ops A} {P : Ops B} {h : A → B} (H : Hom O P h) where
  map-times_digit : (b : Bool) (x r : A) → h (times_digit O b x r) ≡ times_digit P b (h x) (h r)
  map-times_digit true x r = H.mul x r
  map-times_digit false x r = refl

  pub map-binary_power : (digits : ℕ) (x : A) (n : ℕ) → h (binary_power O digits x n) ≡ binary_power P digits (h x) n
  map-binary_power zero x n = H.one
  map-binary_power (suc digits) x n =
      map-times_digit (n % 2 == 1) x (binary_power O digits (O.mul x x) (n / 2))
      ∙ ap (times_digit P (n % 2 == 1) (h x)) (map-binary_power digits (O.mul x x) (n / 2) ∙ ap (λ y. binary_power P digits y (n / 2)) (H.mul x x))

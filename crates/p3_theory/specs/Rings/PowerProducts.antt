-- Powers of products and of inverses, and fixed small powers.
use Rattle.std.proofs.Common.{◌≡◌, ℕ, ◌+◌, ◌*◌, ◌^◌, zero, suc, [], ◌∷◌, refl, sym, ap, ap₂, ◌∙◌, add-one, arith}
use Rattle.std.proofs.Math.Nat.{pow-succ'}
use Rattle.p3_theory.specs.Rings.Ring.{Ops, RingLaws, ring_of}
use Rattle.p3_theory.specs.Rings.Basics.{quotient_exact, swap_factors}
use Rattle.p3_theory.specs.Rings.Powers.{power}
use Rattle.p3_theory.specs.Rings.PowerLaws.{power-add}
use Rattle.p3_theory.specs.Rings.Multiples.{two}
use Rattle.p3_theory.specs.RingSolver.Reify.{by_laws, reads, yes}

module _ {A : Type 0} {O : Ops A} (l : RingLaws O) where
  pub power-mul : (x y : A) (n : ℕ) → power O (O.mul x y) n ≡ O.mul (power O x n) (power O y n)
  power-mul x y zero = sym (l.mul_one O.one)
  power-mul x y (suc n) = ap (O.mul (O.mul x y)) (power-mul x y n) ∙ swap_factors (ring_of l) x y (power O x n) (power O y n)

  pub power_of_one : (n : ℕ) → power O O.one n ≡ O.one
  power_of_one zero = refl
  power_of_one (suc n) = ap (O.mul O.one) (power_of_one n) ∙ l.mul_one O.one

  -- the powers of an inverse are inverses of the powers
  pub power-inverse : (x y : A) → O.mul x y ≡ O.one → (n : ℕ) → O.mul (power O x n) (power O y n) ≡ O.one
  power-inverse x y h n = sym (power-mul x y n) ∙ ap (λ z. power O z n) h ∙ power_of_one n

  -- what is added to itself is multiplied by two
  pub twice : (x : A) → O.mul x (two O) ≡ O.add x x
  twice x = by_laws O l (x ∷ []) (search reads depth 99 fits 99999) (search reads depth 99 fits 99999) yes

  -- x times the n-th power of a half, times two to the n, is x
  pub halves_undone : (x h q r : A) (n : ℕ) → O.add h h ≡ O.one → q ≡ power O h n → r ≡ O.mul x q → O.mul r (power O (two O) n) ≡ x
  halves_undone x h q r n e p m =
      quotient_exact (ring_of l) x (power O (two O) n) (power O h n) r (power-inverse (two O) h (l.mul_comm (two O) h ∙ twice h ∙ e) n) (m ∙ ap (O.mul x) p)

  -- the square of a power has twice the exponent
  pub power-double : (x : A) (n : ℕ) → O.mul (power O x n) (power O x n) ≡ power O x (2 * n)
  power-double x n = sym (power-add l x n n) ∙ (let e : n + n ≡ 2 * n = omega arith in ap (power O x) e)

  -- one more squaring
  pub power_of_two_more : (x y z : A) (k : ℕ) → y ≡ power O x (2 ^ k) → z ≡ O.mul y y → z ≡ power O x (2 ^ (k + 1))
  power_of_two_more x y z k e h =
      let twice : 2 * 2 ^ k ≡ 2 ^ (k + 1) = sym (ap (λ j. 2 ^ j) (add-one k) ∙ pow-succ' 2 k) in
      h ∙ ap₂ O.mul e e ∙ power-double x (2 ^ k) ∙ ap (power O x) twice

-- Powers, finite sums, and the value of a polynomial at a point.
use Rattle.std.specs.Prelude.{ℕ, zero, suc, List, length}
use Rattle.p3_theory.specs.Rings.Ring.{Ops}
use Rattle.p3_theory.specs.Polynomials.Polynomial.{at, tabulate}

module _ {A : Type 0} (R : Ops A) where
  -- the product of n copies of x
  abbrev pub power : A → ℕ → A
  power x zero = R.one
  power x (suc n) = R.mul x (power x n)

  -- the sum of s 0 to s (n - 1)
  abbrev pub sum_of : ℕ → (ℕ → A) → A
  sum_of zero s = R.zero
  sum_of (suc n) s = R.add (s zero) (sum_of n (λ i. s (suc i)))

  -- index k times the k-th power of c
  abbrev pub scale_powers : ℕ → A → List A → List A
  scale_powers D c a = tabulate D (λ k. R.mul (power c k) (at R a k))

module _ {A B : Type 0} (R : Ops A) (E : Ops B) (e : A → B) where
  -- the sum of a i * phi^i
  abbrev pub eval : B → List A → B
  eval phi a = sum_of E (length a) (λ i. E.mul (e (at R a i)) (power E phi i))

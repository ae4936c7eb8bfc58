-- Polynomials at points, and points that are told apart.
use Rattle.std.specs.Prelude.{◌≡◌, ◌≢◌, ◌<◌, ◌≤◌, ℕ, suc, List, length, get_or, map}
use Rattle.p3_theory.specs.Rings.Ring.{Ops, Invertible, subtract}
use Rattle.p3_theory.specs.Rings.Multiples.{of_nat}
use Rattle.p3_theory.specs.Rings.Powers.{eval}
use Rattle.p3_theory.specs.Polynomials.Polynomial.{at, tabulate}

module _ {A : Type 0} (O : Ops A) where
  -- the value at x of the polynomial with these coefficients, from that of X^0 upward
  abbrev pub value_at : List A → A → A
  value_at c x = eval O O (λ a. a) x c

  -- the points 1 to n
  abbrev pub first_points : ℕ → List A
  first_points n = tabulate n (λ i. of_nat O (suc i))

  -- each difference of two of the points has an inverse
  abbrev pub AreApart : List A → Type 0
  AreApart xs =
      (d : A) (i j : ℕ) → i < length xs → j < length xs → i ≢ j → Invertible O (subtract O (get_or xs i d) (get_or xs j d))

  -- s is the constant coefficient of each polynomial that has these values at these points, and no more
  -- coefficients than there are points
  abbrev pub IsSecret : List A → List A → A → Type 0
  IsSecret xs ys s = (c : List A) → length c ≤ length xs → ys ≡ map (value_at c) xs → s ≡ at O c 0

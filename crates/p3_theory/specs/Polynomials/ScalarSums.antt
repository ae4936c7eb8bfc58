-- The sum and the difference of a coefficient list and an embedded element: index 0 alone changes.
use Rattle.std.proofs.Common.{◌≡◌, ◌<◌, ◌≤◌, ℕ, zero, suc, List, [], ◌∷◌, length, get_or, ap, sym, ◌∙◌, arith}
use Rattle.p3_theory.specs.Rings.Ring.{Ring, subtract}
use Rattle.p3_theory.specs.Polynomials.Polynomial.{at, tabulate, embed, quotient_add, quotient_neg}
use Rattle.p3_theory.specs.Rings.Basics.{neg-zero}
use Rattle.p3_theory.specs.Lists.ByIndex.{get-tabulate, to-tabulate}

-- r is x at every index from 1 on
abbrev pub SameAfterFirst : {A : Type 0} → ℕ → List A → List A → Type 0
SameAfterFirst {A} D x r = (d : A) (k : ℕ) → 1 ≤ k → k < D → get_or r k d ≡ get_or x k d

module _ {A : Type 0} (R : Ring A) (D : ℕ) (some : 0 < D) (x r : List A) (c : A) (l : length r ≡ D) (same : SameAfterFirst D x r) where
  changed-first : (e : A) (s : ℕ → A) → s 0 ≡ e → ((k : ℕ) → suc k < D → s (suc k) ≡ R.zero) → at R.ops r 0 ≡ R.add (at R.ops x 0) e
      → r ≡ tabulate D (λ k. R.add (at R.ops x k) (s k))
  changed-first e s z n h = to-tabulate R.zero D (λ k. R.add (at R.ops x k) (s k)) r l place
    where
      place : (k : ℕ) → k < D → at R.ops r k ≡ R.add (at R.ops x k) (s k)
      place zero w = h ∙ ap (R.add (at R.ops x 0)) (sym z)
      place (suc k) w = same R.zero (suc k) (omega arith) w ∙ sym (R.add_zero _) ∙ ap (R.add (at R.ops x (suc k))) (sym (n k w))

  embedded-coefficient : (k : ℕ) → k < D → at R.ops (embed R.ops D c) k ≡ at R.ops (c ∷ []) k
  embedded-coefficient k w = get-tabulate D (at R.ops (c ∷ [])) k R.zero w

  negated-coefficient : (k : ℕ) → k < D → at R.ops (quotient_neg R.ops D (embed R.ops D c)) k ≡ R.neg (at R.ops (c ∷ []) k)
  negated-coefficient k w = get-tabulate D (λ j. R.neg (at R.ops (embed R.ops D c) j)) k R.zero w ∙ ap R.neg (embedded-coefficient k w)

  pub scalar-sum : at R.ops r 0 ≡ R.add (at R.ops x 0) c → r ≡ quotient_add R.ops D x (embed R.ops D c)
  scalar-sum = changed-first c (at R.ops (embed R.ops D c)) (embedded-coefficient 0 some) (λ k. embedded-coefficient (suc k))

  pub scalar-difference : at R.ops r 0 ≡ subtract R.ops (at R.ops x 0) c → r ≡ quotient_add R.ops D x (quotient_neg R.ops D (embed R.ops D c))
  scalar-difference =
      changed-first (R.neg c) (at R.ops (quotient_neg R.ops D (embed R.ops D c))) (negated-coefficient 0 some) (λ k w. negated-coefficient (suc k) w ∙ neg-zero R)

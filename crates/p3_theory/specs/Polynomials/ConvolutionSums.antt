-- Sums as loops make them, and the product modulo X^D - w by two of them.
use Rattle.std.proofs.Common.{◌≡◌, ◌<◌, ◌≤◌, ◌+◌, ◌-◌, ℕ, zero, suc, refl, sym, ap, ◌∙◌, ap₂}
use mathlib.Core.Path.{fun_ext}
use native.Mathlib.Omega.{arith}
use Rattle.p3_theory.specs.Rings.Ring.{Ring}
use Rattle.p3_theory.specs.Polynomials.Polynomial.{convolve}
use Rattle.p3_theory.specs.Rings.Powers.{sum_of}
use Rattle.p3_theory.specs.Rings.Basics as Basics
use Rattle.p3_theory.specs.Polynomials.Sequences.{tail}
use Rattle.p3_theory.specs.Polynomials.Coefficients.{Ends}

-- the sum of s 0 to s (n - 1), the last one added last
abbrev pub first_sum : {A : Type 0} → A → (A → A → A) → ℕ → (ℕ → A) → A
first_sum o add zero s = o
first_sum o add (suc n) s = add (first_sum o add n s) (s n)

module _ {A : Type 0} (R : Ring A) where
  open R use {zero as 𝟎, one as 𝟏, add as ◌⊕◌, mul as ◌⊗◌}

  infixl 60 ◌⊕◌
  infixl 70 ◌⊗◌
  sum-last : (n : ℕ) (s : ℕ → A) → sum_of R.ops (suc n) s ≡ sum_of R.ops n s ⊕ s n
  sum-last zero s = R.add_comm (s zero) 𝟎
  sum-last (suc n) s = ap (λ v. s zero ⊕ v) (sum-last n (tail R s)) ∙ sym (R.add_assoc _ _ _)

  pub first-sum : (n : ℕ) (s : ℕ → A) → first_sum 𝟎 R.add n s ≡ sum_of R.ops n s
  first-sum zero s = refl
  first-sum (suc n) s = ap (λ v. v ⊕ s n) (first-sum n s) ∙ sym (sum-last n s)

  conv-front : (k : ℕ) (a b : ℕ → A) → sum_of R.ops (suc k) (λ i. a i ⊗ b (k - i)) ≡ convolve R.ops a b k
  conv-front zero a b = R.add_zero _
  conv-front (suc k) a b = ap₂ (λ u v. a zero ⊗ b u ⊕ v) whole
      (ap (sum_of R.ops (suc k)) (fun_ext (λ i. ap (λ j. a (suc i) ⊗ b j) (less i))) ∙ conv-front k (tail R a) b)
    where
      less : (i : ℕ) → suc k - suc i ≡ k - i
      less i = omega arith

      whole : suc k - 0 ≡ suc k
      whole = omega arith

  -- indices up to k
  pub low : (k : ℕ) (a b : ℕ → A) → first_sum 𝟎 R.add (suc k) (λ i. a i ⊗ b (k - i)) ≡ convolve R.ops a b k
  low k a b = first-sum (suc k) (λ i. a i ⊗ b (k - i)) ∙ conv-front k a b

  conv-shift : (n m : ℕ) (a b : ℕ → A) → ((j : ℕ) → m < j → b j ≡ 𝟎) → convolve R.ops a b (n + m) ≡ convolve R.ops (λ i. a (n + i)) b m
  conv-shift zero m a b h = ap₂ (λ s j. convolve R.ops s b j) (fun_ext (λ i. ap a (omega arith))) (omega arith)
  conv-shift (suc n) m a b h = ap (convolve R.ops a b) more
      ∙ ap (λ v. a zero ⊗ v ⊕ convolve R.ops (tail R a) b (n + m)) (h (suc (n + m)) (omega arith))
      ∙ Basics.add_from_zero R _ _ (Basics.mul-zero R (a zero))
      ∙ conv-shift n m (tail R a) b h ∙ ap (λ s. convolve R.ops s b m) (fun_ext (λ i. ap a (next i)))
    where
      more : suc n + m ≡ suc (n + m)
      more = omega arith

      next : (i : ℕ) → suc (n + i) ≡ suc n + i
      next i = omega arith

  nothing-more : (m n : ℕ) (s : ℕ → A) → ((i : ℕ) → n ≤ i → s i ≡ 𝟎) → first_sum 𝟎 R.add (m + n) s ≡ first_sum 𝟎 R.add n s
  nothing-more zero n s h = ap (λ j. first_sum 𝟎 R.add j s) (omega arith)
  nothing-more (suc m) n s h = ap (λ j. first_sum 𝟎 R.add j s) more ∙ ap₂ (λ x y. x ⊕ y) (nothing-more m n s h) (h (m + n) (omega arith)) ∙ R.add_zero _
    where
      more : suc m + n ≡ suc (m + n)
      more = omega arith

  -- indices from D on, of two lists of length D = suc d
  pub high : (d k : ℕ) (a b : ℕ → A) → Ends R (suc d) a → Ends R (suc d) b → k < suc d
      → first_sum 𝟎 R.add (d - k) (λ i. a (k + 1 + i) ⊗ b (d - i)) ≡ convolve R.ops a b (k + suc d)
  high d k a b ha hb h = sym (nothing-more (suc k) (d - k) s gone)
      ∙ ap (λ j. first_sum 𝟎 R.add j s) all
      ∙ low d (λ i. a (k + 1 + i)) b
      ∙ sym (conv-shift (k + 1) d a b (λ j lt. hb j (omega arith)))
      ∙ ap (convolve R.ops a b) same
    where
      s : ℕ → A
      s i = a (k + 1 + i) ⊗ b (d - i)

      gone : (i : ℕ) → d - k ≤ i → s i ≡ 𝟎
      gone i le = ap (λ v. v ⊗ b (d - i)) (ha (k + 1 + i) (omega arith)) ∙ Basics.zero-mul R _

      all : suc k + (d - k) ≡ suc d
      all = omega arith

      same : k + 1 + d ≡ k + suc d
      same = omega arith

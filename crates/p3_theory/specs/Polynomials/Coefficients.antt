-- Lists as the sequences that are zero from some index on.
use Rattle.std.proofs.Common.{◌≡◌, ℕ, zero, suc, ◌+◌, ◌≤◌, List, [], ◌∷◌, length, refl, sym, ap, ◌∙◌, ap₂, zero-le, suc-le-suc}
use mathlib.Core.Path.{fun_ext}
use native.Mathlib.Omega.{arith}
use Rattle.std.proofs.lemmas.List.{get_or_past, ext_get_or}
use Rattle.p3_theory.specs.Rings.Ring.{Ring}
use Rattle.p3_theory.specs.Polynomials.Polynomial.{tabulate, at, convolve, convolution}
use Rattle.p3_theory.specs.Rings.Basics as Basics
use Rattle.p3_theory.specs.Polynomials.Sequences as Sequences
use Rattle.p3_theory.specs.Polynomials.Sequences.{add_sequences, tail}

pub length-tabulate : {A : Type 0} (n : ℕ) (s : ℕ → A) → length (tabulate n s) ≡ n
length-tabulate zero s = refl
length-tabulate (suc n) s = ap suc (length-tabulate n (λ k. s (suc k)))

module _ {A : Type 0} (R : Ring A) where
  open R use {zero as 𝟎, one as 𝟏, add as ◌⊕◌, mul as ◌⊗◌, neg}

  infixl 60 ◌⊕◌
  infixl 70 ◌⊗◌
  -- zero from index n on
  abbrev pub Ends : ℕ → (ℕ → A) → Type 0
  Ends n s = (k : ℕ) → n ≤ k → s k ≡ 𝟎

  pub at-ends : (a : List A) → Ends (length a) (at R.ops a)
  at-ends a k h = get_or_past a k 𝟎 h

  at-tabulate_k : (n : ℕ) (s : ℕ → A) → Ends n s → (k : ℕ) → at R.ops (tabulate n s) k ≡ s k
  at-tabulate_k zero s h k = sym (h k zero-le)
  at-tabulate_k (suc n) s h zero = refl
  at-tabulate_k (suc n) s h (suc k) = at-tabulate_k n (tail R s) (λ j le. h (suc j) (suc-le-suc le)) k

  pub at-tabulate : (n : ℕ) (s : ℕ → A) → Ends n s → at R.ops (tabulate n s) ≡ s
  at-tabulate n s h = fun_ext (at-tabulate_k n s h)

  pub ext : (a b : List A) → length a ≡ length b → at R.ops a ≡ at R.ops b → a ≡ b
  ext a b l e = ext_get_or 𝟎 a b l (λ i lt. ap (λ s. s i) e)

  pub add-ends : (n : ℕ) (s t : ℕ → A) → Ends n s → Ends n t → Ends n (add_sequences R s t)
  add-ends n s t hs ht k le = ap₂ (λ x y. x ⊕ y) (hs k le) (ht k le) ∙ R.add_zero 𝟎

  pub neg-ends : (n : ℕ) (s : ℕ → A) → Ends n s → Ends n (λ k. neg (s k))
  neg-ends n s h k le = ap neg (h k le) ∙ Basics.neg-zero R

  pub convolve-ends : (a : List A) (n : ℕ) (t : ℕ → A) → Ends n t → Ends (length a + n) (convolve R.ops (at R.ops a) t)
  convolve-ends [] n t h k le = ap (λ s. s k) (Sequences.zero_sequence-mul R t)
  convolve-ends (x ∷ a) n t h zero le = ap (λ y. x ⊗ y) (h zero (omega arith)) ∙ Basics.mul-zero R x
  convolve-ends (x ∷ a) n t h (suc k) le =
      ap₂ (λ y z. x ⊗ y ⊕ z) (h (suc k) (omega arith)) (convolve-ends a n t h k (omega arith))
      ∙ ap (λ y. y ⊕ 𝟎) (Basics.mul-zero R x) ∙ R.add_zero 𝟎

  pub at-convolution : (a b : List A) → at R.ops (convolution R.ops a b) ≡ convolve R.ops (at R.ops a) (at R.ops b)
  at-convolution a b = at-tabulate (length a + length b) _ (convolve-ends a (length b) (at R.ops b) (at-ends b))

  -- sums and negations of lists of any lengths
  pub list_add : List A → List A → List A
  list_add a b = tabulate (length a + length b) (add_sequences R (at R.ops a) (at R.ops b))

  pub at-list_add : (a b : List A) → at R.ops (list_add a b) ≡ add_sequences R (at R.ops a) (at R.ops b)
  unfolding list_add
  at-list_add a b = at-tabulate _ _ (λ k le. ap₂ (λ x y. x ⊕ y) (at-ends a k (omega arith)) (at-ends b k (omega arith)) ∙ R.add_zero 𝟎)

  pub list_neg : List A → List A
  list_neg a = tabulate (length a) (λ k. neg (at R.ops a k))

  pub at-list_neg : (a : List A) → at R.ops (list_neg a) ≡ (λ k. neg (at R.ops a k))
  unfolding list_neg
  at-list_neg a = at-tabulate _ _ (neg-ends (length a) (at R.ops a) (at-ends a))

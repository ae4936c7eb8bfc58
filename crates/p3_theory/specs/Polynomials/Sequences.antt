-- Sequences of coefficients as a commutative ring.
use Rattle.std.proofs.Common.{◌≡◌, ℕ, zero, suc, refl, sym, ap, ◌∙◌, ap₂}
use mathlib.Core.Path.{fun_ext}
use Rattle.p3_theory.specs.Rings.Ring.{Ring, Hom}
use Rattle.p3_theory.specs.Rings.Basics.{add-mul, add_neg_left, neg_unique, one-mul, swap_four, zero-mul}
use Rattle.p3_theory.specs.Polynomials.Polynomial.{convolve}

module _ {A : Type 0} (R : Ring A) where
  open R use {zero as 𝟎, one as 𝟏, add as ◌⊕◌, mul as ◌⊗◌}

  infixl 60 ◌⊕◌
  infixl 70 ◌⊗◌
  -- sequences, index by index
  abbrev pub add_sequences : (ℕ → A) → (ℕ → A) → ℕ → A
  add_sequences s t k = s k ⊕ t k

  -- each item times x
  abbrev pub scale : A → (ℕ → A) → ℕ → A
  scale x s k = x ⊗ s k

  -- the items from the second on
  abbrev pub tail : (ℕ → A) → ℕ → A
  tail s k = s (suc k)

  -- zeros
  abbrev pub zero_sequence : ℕ → A
  zero_sequence k = 𝟎

  -- one, and then zeros
  abbrev pub one_sequence : ℕ → A
  one_sequence zero = 𝟏
  one_sequence (suc k) = 𝟎

  -- the product as the sum from the other end
  conv-end : (s t : ℕ → A) (k : ℕ) → convolve R.ops s t (suc k) ≡ convolve R.ops s (tail t) k ⊕ s (suc k) ⊗ t zero
  conv-end s t zero = refl
  conv-end s t (suc k) = ap (λ w. s zero ⊗ t (suc (suc k)) ⊕ w) (conv-end (tail s) t k) ∙ sym (R.add_assoc _ _ _)

  conv_comm_at : (s t : ℕ → A) (k : ℕ) → convolve R.ops s t k ≡ convolve R.ops t s k
  conv_comm_at s t zero = R.mul_comm (s zero) (t zero)
  conv_comm_at s t (suc k) = ap₂ (λ x y. x ⊕ y) (R.mul_comm (s zero) (t (suc k))) (conv_comm_at (tail s) t k)
      ∙ R.add_comm _ _ ∙ sym (conv-end t s k)

  pub conv_comm : (s t : ℕ → A) → convolve R.ops s t ≡ convolve R.ops t s
  conv_comm s t = fun_ext (conv_comm_at s t)

  pub conv_add_at : (s t u : ℕ → A) (k : ℕ) → convolve R.ops (add_sequences s t) u k ≡ convolve R.ops s u k ⊕ convolve R.ops t u k
  conv_add_at s t u zero = add-mul R (s zero) (t zero) (u zero)
  conv_add_at s t u (suc k) = ap₂ (λ a b. a ⊕ b) (add-mul R (s zero) (t zero) (u (suc k))) (conv_add_at (tail s) (tail t) u k)
      ∙ swap_four R _ _ _ _

  conv_scale_at : (x : A) (s t : ℕ → A) (k : ℕ) → convolve R.ops (scale x s) t k ≡ x ⊗ convolve R.ops s t k
  conv_scale_at x s t zero = R.mul_assoc x (s zero) (t zero)
  conv_scale_at x s t (suc k) = ap₂ (λ a b. a ⊕ b) (R.mul_assoc x (s zero) (t (suc k))) (conv_scale_at x (tail s) t k)
      ∙ sym (R.mul_add x _ _)

  pub conv_assoc_at : (s t u : ℕ → A) (k : ℕ) → convolve R.ops (convolve R.ops s t) u k ≡ convolve R.ops s (convolve R.ops t u) k
  conv_assoc_at s t u zero = R.mul_assoc (s zero) (t zero) (u zero)
  conv_assoc_at s t u (suc k) =
      ap₂ (λ a b. a ⊕ b) (R.mul_assoc (s zero) (t zero) (u (suc k)))
      (conv_add_at (scale (s zero) (tail t)) (convolve R.ops (tail s) t) u k
      ∙ ap₂ (λ a b. a ⊕ b) (conv_scale_at (s zero) (tail t) u k) (conv_assoc_at (tail s) t u k))
      ∙ sym (R.add_assoc _ _ _)
      ∙ ap (λ w. w ⊕ convolve R.ops (tail s) (convolve R.ops t u) k) (sym (R.mul_add _ _ _))

  conv_zero_at : (t : ℕ → A) (k : ℕ) → convolve R.ops zero_sequence t k ≡ 𝟎
  conv_zero_at t zero = zero-mul R (t zero)
  conv_zero_at t (suc k) = ap₂ (λ a b. a ⊕ b) (zero-mul R (t (suc k))) (conv_zero_at t k) ∙ R.add_zero 𝟎

  pub conv_one_at : (t : ℕ → A) (k : ℕ) → convolve R.ops one_sequence t k ≡ t k
  conv_one_at t zero = one-mul R (t zero)
  conv_one_at t (suc k) = ap₂ (λ a b. a ⊕ b) (one-mul R (t (suc k))) (conv_zero_at t k) ∙ R.add_zero (t (suc k))

  -- the sequences are a commutative ring
  abbrev pub sequences : Ring (ℕ → A)
  sequences = record {
    ops = record { zero = zero_sequence; one = one_sequence; add = add_sequences; neg = λ s k. R.neg (s k); mul = convolve R.ops };
    laws = record {
      add_comm = λ s t. fun_ext (λ k. R.add_comm (s k) (t k));
      add_assoc = λ s t u. fun_ext (λ k. R.add_assoc (s k) (t k) (u k));
      add_zero = λ s. fun_ext (λ k. R.add_zero (s k));
      add_neg = λ s. fun_ext (λ k. R.add_neg (s k));
      mul_comm = conv_comm;
      mul_assoc = λ s t u. fun_ext (conv_assoc_at s t u);
      mul_one = λ s. conv_comm s one_sequence ∙ fun_ext (conv_one_at s);
      mul_add = λ s t u. conv_comm s (add_sequences t u) ∙ fun_ext (conv_add_at t u s)
          ∙ ap₂ add_sequences (conv_comm t s) (conv_comm u s);
    };
  }

  pub zero_sequence-mul : (t : ℕ → A) → convolve R.ops zero_sequence t ≡ zero_sequence
  zero_sequence-mul t = fun_ext (conv_zero_at t)

-- a map of rings that keeps zero, one, sums and products keeps negation too
pub ring_hom : {A B : Type 0} (R : Ring A) (E : Ring B) (h : A → B) → h R.zero ≡ E.zero → h R.one ≡ E.one
    → ((x y : A) → h (R.add x y) ≡ E.add (h x) (h y)) → ((x y : A) → h (R.mul x y) ≡ E.mul (h x) (h y)) → Hom R.ops E.ops h
ring_hom R E h zeros ones sums products = record {
  zero = zeros;
  one = ones;
  add = sums;
  neg = λ x. neg_unique E (h x) (h (R.neg x)) (sym (sums (R.neg x) x) ∙ ap h (add_neg_left R x) ∙ zeros);
  mul = products;
}

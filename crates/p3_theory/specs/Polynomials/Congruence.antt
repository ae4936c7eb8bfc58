-- Lists modulo a monic polynomial.
use Rattle.std.proofs.Common.{◌≡◌, ℕ, zero, suc, ◌<◌, ◌≤◌, List, [], ◌∷◌, length, refl, sym, ap, ◌∙◌, ap₂, eq-or-lt_of_le, le_of_suc-le-suc, suc-le-suc, inl, inr, ◌⊎◌}
use mathlib.Core.Path.{fun_ext}
use native.Mathlib.Omega.{arith}
use Rattle.p3_theory.specs.Rings.Ring.{Ring}
use Rattle.p3_theory.specs.Polynomials.Polynomial.{at, convolve, convolution, IsMonic, IsRemainder, remainder}
use Rattle.p3_theory.specs.Rings.Basics as Basics
use Rattle.p3_theory.specs.Polynomials.Sequences as Sequences
use Rattle.p3_theory.specs.Polynomials.Sequences.{sequences, add_sequences, zero_sequence}
use Rattle.p3_theory.specs.Polynomials.Coefficients as F
use Rattle.p3_theory.specs.Polynomials.Coefficients.{Ends}

-- in any ring
module _ {A : Type 0} (R : Ring A) where
  open R use {zero as 𝟎, one as 𝟏, add as ◌⊕◌, mul as ◌⊗◌, neg}

  infixl 60 ◌⊕◌
  infixl 70 ◌⊗◌
  -- what is taken away comes back
  pub take_away : (x t : A) → x ≡ t ⊕ (x ⊕ neg t)
  take_away x t = sym (Basics.add_left_comm R t x (neg t) ∙ ap (λ w. x ⊕ w) (R.add_neg t) ∙ R.add_zero x)

  pub add_cong-mul : (h g f t : A) → h ⊗ f ⊕ (g ⊗ f ⊕ t) ≡ (h ⊕ g) ⊗ f ⊕ t
  add_cong-mul h g f t = sym (R.add_assoc _ _ _) ∙ ap (λ w. w ⊕ t) (sym (Basics.add-mul R h g f))

  pub neg-back : (h f t : A) → neg h ⊗ f ⊕ (h ⊗ f ⊕ t) ≡ t
  neg-back h f t = add_cong-mul (neg h) h f t ∙ ap (λ w. w ⊗ f ⊕ t) (Basics.add_neg_left R h)
      ∙ Basics.add_from_zero R _ t (Basics.zero-mul R f)

module _ {A : Type 0} (R : Ring A) where
  open R use {zero as 𝟎, one as 𝟏, add as ◌⊕◌, mul as ◌⊗◌, neg}

  infixl 60 ◌⊕◌
  infixl 70 ◌⊗◌
  abbrev S : Ring (ℕ → A)
  S = sequences R

  -- s and t differ by a multiple of f
  pub record Cong (f s t : ℕ → A) : Type 0 where
    pub by : List A
    pub is : s ≡ add_sequences R (convolve R.ops (at R.ops by) f) t

  pub cong_refl : (f s : ℕ → A) → Cong f s s
  cong_refl f s = record { by = []; is = sym (Basics.add_from_zero S _ s (Sequences.zero_sequence-mul R f)) }

  pub cong_trans : (f s t u : ℕ → A) → Cong f s t → Cong f t u → Cong f s u
  cong_trans f s t u p q = record {
    by = F.list_add R p.by q.by;
    is = p.is ∙ ap (add_sequences R (convolve R.ops (at R.ops p.by) f)) q.is ∙ add_cong-mul S (at R.ops p.by) (at R.ops q.by) f u
        ∙ ap (λ w. add_sequences R (convolve R.ops w f) u) (sym (F.at-list_add R p.by q.by));
  }

  pub cong_sym : (f s t : ℕ → A) → Cong f s t → Cong f t s
  cong_sym f s t p = record {
    by = F.list_neg R p.by;
    is = sym (ap₂ (λ w v. add_sequences R (convolve R.ops w f) v) (F.at-list_neg R p.by) p.is ∙ neg-back S (at R.ops p.by) f t);
  }

  pub cong_add : (f s s' t t' : ℕ → A) → Cong f s s' → Cong f t t' → Cong f (add_sequences R s t) (add_sequences R s' t')
  cong_add f s s' t t' p q = record {
    by = F.list_add R p.by q.by;
    is = ap₂ (add_sequences R) p.is q.is ∙ Basics.swap_four S _ s' _ t'
        ∙ ap (λ w. add_sequences R w (add_sequences R s' t')) (sym (Basics.add-mul S (at R.ops p.by) (at R.ops q.by) f) ∙ ap (λ w. convolve R.ops w f) (sym (F.at-list_add R p.by q.by)));
  }

  pub cong_mul : (f s s' : ℕ → A) (b : List A) → Cong f s s' → Cong f (convolve R.ops s (at R.ops b)) (convolve R.ops s' (at R.ops b))
  cong_mul f s s' b p = record {
    by = convolution R.ops p.by b;
    is = ap (λ w. convolve R.ops w (at R.ops b)) p.is ∙ Basics.add-mul S _ s' (at R.ops b)
        ∙ ap (λ w. add_sequences R w (convolve R.ops s' (at R.ops b)))
        (S.mul_assoc (at R.ops p.by) f (at R.ops b) ∙ ap (convolve R.ops (at R.ops p.by)) (S.mul_comm f (at R.ops b))
        ∙ sym (S.mul_assoc (at R.ops p.by) (at R.ops b) f) ∙ ap (λ w. convolve R.ops w f) (sym (F.at-convolution R p.by b)));
  }

  -- a multiple of a monic f that ends below its degree is zero
  no_multiple : (d : ℕ) (f : ℕ → A) → f (suc d) ≡ 𝟏 → Ends R (suc (suc d)) f → (h : List A)
      → Ends R (suc d) (convolve R.ops (at R.ops h) f) → at R.ops h ≡ zero_sequence R
  no_multiple d f one ends [] e = refl
  no_multiple d f one ends (x ∷ h) e = fun_ext (all (no_multiple d f one ends h low))
    where
      low : Ends R (suc d) (convolve R.ops (at R.ops h) f)
      low k le = sym (Basics.add_from_zero R _ _ (ap (λ w. x ⊗ w) (ends (suc k) (omega arith)) ∙ Basics.mul-zero R x))
          ∙ e (suc k) (omega arith)

      first : at R.ops h ≡ zero_sequence R → x ≡ 𝟎
      first rest = sym (R.mul_one x) ∙ ap (λ w. x ⊗ w) (sym one) ∙ sym (R.add_zero _)
          ∙ ap (λ w. x ⊗ f (suc d) ⊕ w) (sym (ap (λ s. convolve R.ops s f d) rest ∙ ap (λ s. s d) (Sequences.zero_sequence-mul R f)))
          ∙ e (suc d) (omega arith)

      all : at R.ops h ≡ zero_sequence R → (k : ℕ) → at R.ops (x ∷ h) k ≡ 𝟎
      all rest zero = first rest
      all rest (suc k) = ap (λ s. s k) rest

  -- two values that end below the degree and differ by a multiple are one
  pub cong_small : (d : ℕ) (f s t : ℕ → A) → f (suc d) ≡ 𝟏 → Ends R (suc (suc d)) f → Ends R (suc d) s → Ends R (suc d) t
      → Cong f s t → s ≡ t
  cong_small d f s t one ends hs ht p =
      p.is ∙ ap (λ w. add_sequences R (convolve R.ops w f) t) (no_multiple d f one ends p.by small) ∙ Basics.add_from_zero S _ t (Sequences.zero_sequence-mul R f)
    where
      small : Ends R (suc d) (convolve R.ops (at R.ops p.by) f)
      small k le = sym (R.add_zero _) ∙ ap (λ w. convolve R.ops (at R.ops p.by) f k ⊕ w) (sym (ht k le))
          ∙ sym (ap (λ w. w k) p.is) ∙ hs k le

  -- the remainder is congruent, index by index
  module _ (d : ℕ) (f : List A) (m : IsMonic R.ops (suc d) f) where
    pub f-ends : Ends R (suc (suc d)) (at R.ops f)
    f-ends k le = F.at-ends R f k (rw m.degree le)

    -- coefficient k of x + X r, after the multiple of the monic polynomial that clears X^d is taken away
    abbrev pub step : A → List A → ℕ → A
    step x r k = at R.ops (x ∷ r) k ⊕ neg (at R.ops r d ⊗ at R.ops f k)

    pub length-remainder : (c : List A) → length (remainder R.ops (suc d) f c) ≡ suc d
    length-remainder [] = F.length-tabulate (suc d) (at R.ops [])
    length-remainder (x ∷ c) = F.length-tabulate (suc d) (step x (remainder R.ops (suc d) f c))

    pub small : (r : List A) → length r ≡ suc d → Ends R (suc d) (at R.ops r)
    small r l k le = F.at-ends R r k (rw l le)

    step-ends : (x : A) (r : List A) → length r ≡ suc d → Ends R (suc d) (step x r)
    step-ends x r l zero le = absurd (le' le)
      where
        le' : suc d ≤ zero → ⊥
        le' h = omega arith
    step-ends x r l (suc k) le = go (eq-or-lt_of_le (le_of_suc-le-suc le))
      where
        go : (d ≡ k) ⊎ (d < k) → at R.ops r k ⊕ neg (at R.ops r d ⊗ at R.ops f (suc k)) ≡ 𝟎
        go (inl e) = rw (← e, m.leading, R.mul_one) (R.add_neg (at R.ops r d))
        go (inr lt) = rw (f-ends (suc k) (suc-le-suc lt), small r l k lt, Basics.mul-zero R, Basics.neg-zero R) (R.add_zero 𝟎)

    pub remainder-cong : (c : List A) → Cong (at R.ops f) (at R.ops c) (at R.ops (remainder R.ops (suc d) f c))
    remainder-cong [] = record { by = []; is = sym (ap₂ (add_sequences R) (Sequences.zero_sequence-mul R (at R.ops f)) (F.at-tabulate R (suc d) (at R.ops []) (λ k le. refl)) ∙ S.add_zero (at R.ops [])) }
    remainder-cong (x ∷ c) = record {
      by = at R.ops (remainder R.ops (suc d) f c) d ∷ (remainder-cong c).by;
      is = fun_ext (each_coefficient (remainder R.ops (suc d) f c) (remainder-cong c)) ∙ ap (add_sequences R _) (sym (F.at-tabulate R (suc d) (step x (remainder R.ops (suc d) f c)) (step-ends x (remainder R.ops (suc d) f c) (length-remainder c))));
    }
      where
        each_coefficient : (r : List A) (p : Cong (at R.ops f) (at R.ops c) (at R.ops r)) (k : ℕ) → at R.ops (x ∷ c) k
            ≡ convolve R.ops (at R.ops (at R.ops r d ∷ p.by)) (at R.ops f) k ⊕ (at R.ops (x ∷ r) k ⊕ neg (at R.ops r d ⊗ at R.ops f k))
        each_coefficient r p zero = take_away R x _
        each_coefficient r p (suc k) = ap (λ s. s k) p.is ∙ ap (λ w. convolve R.ops (at R.ops p.by) (at R.ops f) k ⊕ w) (take_away R (at R.ops r k) (at R.ops r d ⊗ at R.ops f (suc k)))
            ∙ Basics.add_left_comm R _ _ _ ∙ sym (R.add_assoc _ _ _)

    -- the remainder is one
    pub remainder-is : (c : List A) → IsRemainder R.ops (suc d) f c (remainder R.ops (suc d) f c)
    remainder-is c = record { length_is = length-remainder c; quotient = (remainder-cong c).by; holds = λ k. ap (λ s. s k) (remainder-cong c).is }

    -- and the only one
    pub remainder_unique : (c r r' : List A) → IsRemainder R.ops (suc d) f c r → IsRemainder R.ops (suc d) f c r' → r ≡ r'
    remainder_unique c r r' p q = F.ext R r r' (p.length_is ∙ sym q.length_is)
        (cong_small d (at R.ops f) (at R.ops r) (at R.ops r') m.leading f-ends (small r p.length_is) (small r' q.length_is)
        (cong_trans (at R.ops f) (at R.ops r) (at R.ops c) (at R.ops r')
        (cong_sym (at R.ops f) (at R.ops c) (at R.ops r) (record { by = p.quotient; is = fun_ext p.holds }))
        (record { by = q.quotient; is = fun_ext q.holds })))

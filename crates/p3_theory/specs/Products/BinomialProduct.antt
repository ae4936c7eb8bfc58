-- The product modulo X^D - w in closed form.
use Rattle.std.proofs.Common.{◌≡◌, ◌+◌, ℕ, zero, suc, List, length, refl, sym, ap, ◌∙◌, ap₂, add-zero, add-suc}
use mathlib.Core.Path.{fun_ext}
use native.Mathlib.Omega.{arith}
use Rattle.p3_theory.specs.Rings.Ring.{Ring}
use Rattle.p3_theory.specs.Polynomials.Polynomial.{tabulate, at, convolve, IsMonic, quotient_mul, monomial, binomial}
use Rattle.p3_theory.specs.Rings.Basics as Basics
use Rattle.p3_theory.specs.Polynomials.Sequences as Sequences
use Rattle.p3_theory.specs.Polynomials.Sequences.{tail}
use Rattle.p3_theory.specs.Polynomials.Coefficients as F
use Rattle.p3_theory.specs.Polynomials.Congruence as Q
use Rattle.p3_theory.specs.Polynomials.QuotientRing as X
use Rattle.p3_theory.specs.FrobeniusMaps.BinomialFrobenius.{binomial_monic}

module _ {A : Type 0} (R : Ring A) where
  open R use {zero as 𝟎, one as 𝟏, add as ◌⊕◌, mul as ◌⊗◌, neg}

  infixl 60 ◌⊕◌
  infixl 70 ◌⊗◌
  abbrev cons : A → (ℕ → A) → ℕ → A
  cons x s zero = x
  cons x s (suc k) = s k

  -- X^d * s
  abbrev up : ℕ → (ℕ → A) → ℕ → A
  up zero s = s
  up (suc d) s = cons 𝟎 (up d s)

  monomial-mul : (d : ℕ) (s : ℕ → A) (k : ℕ) → convolve R.ops (at R.ops (monomial R.ops d)) s k ≡ up d s k
  monomial-mul zero s zero = Basics.one-mul R (s zero)
  monomial-mul zero s (suc k) = ap₂ (λ x y. x ⊕ y) (Basics.one-mul R (s (suc k))) (ap (λ t. t k) (Sequences.zero_sequence-mul R s)) ∙ R.add_zero _
  monomial-mul (suc d) s zero = Basics.zero-mul R (s zero)
  monomial-mul (suc d) s (suc k) = Basics.add_from_zero R _ _ (Basics.zero-mul R (s (suc k))) ∙ monomial-mul d s k

  -- (X^D - w) * s
  binomial-mul : (d : ℕ) (w : A) (s : ℕ → A) (k : ℕ) → convolve R.ops s (at R.ops (binomial R.ops (suc d) w)) k ≡ neg w ⊗ s k ⊕ up (suc d) s k
  binomial-mul d w s k = ap (λ t. t k) (Sequences.conv_comm R s (at R.ops (binomial R.ops (suc d) w))) ∙ go k
    where
      go : (k : ℕ) → convolve R.ops (at R.ops (binomial R.ops (suc d) w)) s k ≡ neg w ⊗ s k ⊕ up (suc d) s k
      go zero = sym (R.add_zero _)
      go (suc k) = ap (λ x. neg w ⊗ s (suc k) ⊕ x) (monomial-mul d s k)

  -- c below index D, then w times what stands D indices up
  abbrev pub fold : ℕ → A → (ℕ → A) → ℕ → A
  fold D w c k = c k ⊕ w ⊗ c (k + D)

  -- the first D indices of s
  first-up : (D : ℕ) (c : ℕ → A) (k : ℕ) → c k ≡ at R.ops (tabulate D c) k ⊕ up D (λ i. c (i + D)) k
  first-up zero c k = ap c (sym (add-zero k)) ∙ sym (Basics.zero-add R _)
  first-up (suc D) c zero = sym (R.add_zero _)
  first-up (suc D) c (suc k) = first-up D (tail R c) k ∙ ap (λ s. at R.ops (tabulate D (tail R c)) k ⊕ up D s k) (fun_ext (λ i. ap c (sym (add-suc i D))))

  coefficient_split : (x t u y : A) → x ≡ t ⊕ y → x ≡ (neg u ⊕ y) ⊕ (t ⊕ u)
  coefficient_split x t u y e =
      e ∙ sym (ap (λ v. v ⊕ (t ⊕ u)) (R.add_comm (neg u) y) ∙ Basics.swap_four R y (neg u) t u ∙ ap₂ (λ v w. v ⊕ w) (R.add_comm y t) (Basics.add_neg_left R u) ∙ R.add_zero _)

  tabulate-add : (w : A) (n : ℕ) (s t : ℕ → A) (k : ℕ) → at R.ops (tabulate n (λ i. s i ⊕ w ⊗ t i)) k
      ≡ at R.ops (tabulate n s) k ⊕ w ⊗ at R.ops (tabulate n t) k
  tabulate-add w zero s t k = sym (ap (λ v. 𝟎 ⊕ v) (Basics.mul-zero R w) ∙ R.add_zero 𝟎)
  tabulate-add w (suc n) s t zero = refl
  tabulate-add w (suc n) s t (suc k) = tabulate-add w n (tail R s) (tail R t) k

  -- the product modulo X^D - w: index k holds the sum over i + j = k, and w times the sum over i + j = k + D
  pub binomial_product : (d : ℕ) (w : A) (a b : List A) → length a ≡ suc d → length b ≡ suc d
      → quotient_mul R.ops (suc d) (binomial R.ops (suc d) w) a b ≡ tabulate (suc d) (fold (suc d) w (convolve R.ops (at R.ops a) (at R.ops b)))
  binomial_product d w a b la lb = X.equal R d f m _ _ (X.length-mul R d f m a b) (F.length-tabulate (suc d) (fold (suc d) w s))
      (X.chain R d f m (X.flip R d f m (X.mul~ R d f m a b)) (record { by = tabulate (suc d) t; is = fun_ext go }))
    where
      f : List A
      f = binomial R.ops (suc d) w

      m : IsMonic R.ops (suc d) f
      m = binomial_monic R d w

      s : ℕ → A
      s = convolve R.ops (at R.ops a) (at R.ops b)

      t : ℕ → A
      t i = s (i + suc d)

      q : at R.ops (tabulate (suc d) t) ≡ t
      q = F.at-tabulate R (suc d) t (λ k le. F.convolve-ends R a (suc d) (at R.ops b) (Q.small R d f m b lb) (k + suc d) (omega arith))

      go : (k : ℕ) → s k ≡ convolve R.ops (at R.ops (tabulate (suc d) t)) (at R.ops f) k ⊕ at R.ops (tabulate (suc d) (fold (suc d) w s)) k
      go k = coefficient_split (s k) (at R.ops (tabulate (suc d) s) k) (w ⊗ t k) (up (suc d) t k) (first-up (suc d) s k)
          ∙ ap₂ (λ x y. x ⊕ y)
          (ap (λ x. x ⊕ up (suc d) t k) (sym (Basics.neg-mul R w (t k))) ∙ sym (binomial-mul d w t k) ∙ ap (λ v. convolve R.ops v (at R.ops f) k) (sym q))
          (ap (λ v. at R.ops (tabulate (suc d) s) k ⊕ w ⊗ v k) (sym q) ∙ sym (tabulate-add w (suc d) s t k))

-- Modulo X^D - w, with the image c * X of X for a c whose power D is one: a Frobenius map.
use Rattle.std.proofs.Common.{◌≡◌, ◌≤◌, ◌<◌, ◌↔◌, ℕ, zero, suc, List, [], ◌∷◌, length, refl, sym, ap, ◌∙◌, ap₂, inl, inr}
use mathlib.Core.Path.{fun_ext}
use native.Mathlib.Omega.{arith}
use Rattle.std.proofs.lemmas.Bool.{cases_lt}
use Rattle.p3_theory.specs.Rings.Ring.{Ops, Ring, Invertible}
use Rattle.p3_theory.specs.Polynomials.Polynomial.{tabulate, at, IsMonic, embed, monomial, binomial}
use Rattle.p3_theory.specs.Rings.Powers.{power, eval}
use Rattle.p3_theory.specs.FrobeniusMaps.Frobenius.{iterate, IsFrobenius, orbit_product}
use Rattle.p3_theory.specs.Rings.Basics as Basics
use Rattle.p3_theory.specs.Rings.PowerProducts.{power-mul, power_of_one}
use Rattle.p3_theory.specs.Polynomials.Coefficients as F
use Rattle.p3_theory.specs.Polynomials.Congruence as Q
use Rattle.p3_theory.specs.Polynomials.QuotientRing as X
use Rattle.p3_theory.specs.Polynomials.QuotientRing.{Ext, extension}
use Rattle.p3_theory.specs.Polynomials.Horner as V
use Rattle.p3_theory.specs.Polynomials.Horner.{horner, twist}
use Rattle.p3_theory.specs.Polynomials.Substitution as Sg
use Rattle.p3_theory.specs.Polynomials.Substitution.{emb, sigma_of}
use Rattle.p3_theory.specs.FrobeniusMaps.Norm as N

module _ {A : Type 0} (O : Ops A) where
  length-monomial : (d : ℕ) → length (monomial O d) ≡ suc d
  length-monomial zero = refl
  length-monomial (suc d) = ap suc (length-monomial d)

  at-monomial : (d : ℕ) → at O (monomial O d) d ≡ O.one
  at-monomial zero = refl
  at-monomial (suc d) = at-monomial d

  -- X^D - w is monic
  pub binomial_is_monic : (D : ℕ) → 1 ≤ D → (w : A) → IsMonic O D (binomial O D w)
  binomial_is_monic zero h w = absurd (omega arith)
  binomial_is_monic (suc d) h w = record { degree = ap suc (length-monomial d); leading = at-monomial d }

module _ {A : Type 0} (R : Ring A) where
  open R use {zero as 𝟎, one as 𝟏, add as ◌⊕◌, mul as ◌⊗◌, neg}

  infixl 60 ◌⊕◌
  infixl 70 ◌⊗◌
  pub binomial_monic : (d : ℕ) (w : A) → IsMonic R.ops (suc d) (binomial R.ops (suc d) w)
  binomial_monic d w = record { degree = ap suc (length-monomial R.ops d); leading = at-monomial R.ops d }

  -- each power of a root of unity is one
  power-root : (c : A) (n : ℕ) → power R.ops c n ≡ 𝟏 → (k : ℕ) → power R.ops (power R.ops c k) n ≡ 𝟏
  power-root c n root zero = power_of_one R.laws n
  power-root c n root (suc k) = power-mul R.laws c (power R.ops c k) n ∙ ap₂ (λ x y. x ⊗ y) root (power-root c n root k) ∙ R.mul_one 𝟏

  -- a monomial is unchanged where its own power is one
  twist-monomial : (c : A) (d : ℕ) (y : A) → y ⊗ power R.ops c d ≡ 𝟏 → (k : ℕ)
      → (y ⊗ power R.ops c k) ⊗ at R.ops (monomial R.ops d) k ≡ at R.ops (monomial R.ops d) k
  twist-monomial c zero y h zero = R.mul_one _ ∙ h
  twist-monomial c zero y h (suc k) = Basics.mul-zero R _
  twist-monomial c (suc d) y h zero = Basics.mul-zero R _
  twist-monomial c (suc d) y h (suc k) = ap (λ w. w ⊗ at R.ops (monomial R.ops d) k) (sym (R.mul_assoc y c _))
      ∙ twist-monomial c d (y ⊗ c) (R.mul_assoc y c _ ∙ h) k

  -- (c - 1) * a = 0 where c * a = a
  cancels : (c a : A) → c ⊗ a ≡ a → Invertible R.ops (c ⊕ neg 𝟏) → a ≡ 𝟎
  cancels c a e inv = sym (Basics.mul_from_one R _ a (R.mul_comm inv.0 _ ∙ inv.1)) ∙ R.mul_assoc inv.0 _ a
      ∙ ap (λ w. inv.0 ⊗ w) (Basics.add-mul R c (neg 𝟏) a ∙ ap (λ w. w ⊕ neg 𝟏 ⊗ a) (e ∙ sym (Basics.one-mul R a))
      ∙ sym (Basics.add-mul R 𝟏 (neg 𝟏) a) ∙ ap (λ w. w ⊗ a) (R.add_neg 𝟏) ∙ Basics.zero-mul R a)
      ∙ Basics.mul-zero R inv.0

module _ {A : Type 0} (R : Ring A) (d : ℕ) (w c : A) (root : power R.ops c (suc d) ≡ R.one) where
  open R use {zero as 𝟎, one as 𝟏, add as ◌⊕◌, mul as ◌⊗◌, neg}

  infixl 60 ◌⊕◌
  infixl 70 ◌⊗◌
  abbrev f : List A
  f = binomial R.ops (suc d) w

  abbrev m : IsMonic R.ops (suc d) f
  m = binomial_monic R d w

  abbrev E : Ring (Ext R d f m)
  E = extension R d f m

  -- the image of X
  abbrev pub image : Ext R d f m
  image = E.mul (emb R d f m c) (Sg.var R d f m)

  -- the map that takes X to that image
  abbrev pub sigma : Ext R d f m → Ext R d f m
  sigma = sigma_of R d f m image

  twist-f : twist R E (emb R d f m) (Sg.hom R d f m) c (at R.ops f) ≡ at R.ops f
  twist-f = fun_ext go
    where
      go : (k : ℕ) → power R.ops c k ⊗ at R.ops f k ≡ at R.ops f k
      go zero = Basics.one-mul R _
      go (suc k) = twist-monomial R c d c root k

  pub image_root : eval R.ops E.ops (emb R d f m) image f ≡ E.zero
  image_root = V.sum-horner R E (emb R d f m) (Sg.hom R d f m) image (length f) (at R.ops f)
      ∙ V.horner-twist R E (emb R d f m) (Sg.hom R d f m) c (Sg.var R d f m) (length f) (at R.ops f)
      ∙ ap (horner R E (emb R d f m) (Sg.hom R d f m) (Sg.var R d f m) (length f)) twist-f
      ∙ X.Ext-path R d f m _ _ (Sg.at_var R d f m f ∙ Sg.remainder-modulus R d f m)

  -- index k is multiplied by c^k
  pub sigma_coefficients : (a : Ext R d f m) → at R.ops (sigma a).0 ≡ (λ k. power R.ops c k ⊗ at R.ops a.0 k)
  sigma_coefficients a = ap (λ b. at R.ops b.0) (Sg.sigma-horner R d f m image a
      ∙ V.horner-twist R E (emb R d f m) (Sg.hom R d f m) c (Sg.var R d f m) (suc d) (at R.ops a.0)
      ∙ ap₂ (horner R E (emb R d f m) (Sg.hom R d f m) (Sg.var R d f m)) (sym (F.length-tabulate (suc d) s)) (sym tab))
      ∙ ap (at R.ops) (Sg.at_var R d f m (tabulate (suc d) s) ∙ Sg.remainder-small R d f m (tabulate (suc d) s) (F.length-tabulate (suc d) s)) ∙ tab
    where
      s : ℕ → A
      s k = power R.ops c k ⊗ at R.ops a.0 k

      tab : at R.ops (tabulate (suc d) s) ≡ s
      tab = F.at-tabulate R (suc d) s (λ k le. ap (λ v. power R.ops c k ⊗ v) (Q.small R d f m a.0 a.1 k le) ∙ Basics.mul-zero R _)

  iterate_coefficients : (n : ℕ) (a : Ext R d f m) (k : ℕ) → at R.ops (iterate sigma n a).0 k ≡ power R.ops (power R.ops c k) n ⊗ at R.ops a.0 k
  iterate_coefficients zero a k = sym (Basics.one-mul R _)
  iterate_coefficients (suc n) a k = iterate_coefficients n (sigma a) k ∙ ap (λ v. power R.ops (power R.ops c k) n ⊗ v) (ap (λ s. s k) (sigma_coefficients a))
      ∙ sym (R.mul_assoc _ _ _) ∙ ap (λ v. v ⊗ at R.ops a.0 k) (R.mul_comm _ _)

  pub frobenius : ((k : ℕ) → 1 ≤ k → k < suc d → Invertible R.ops (power R.ops c k ⊕ neg 𝟏))
      → IsFrobenius R.ops E.ops (emb R d f m) (suc d) sigma
  frobenius apart = record {
    mul = Sg.sigma_mul R d f m image image_root;
    embedded = λ x. X.by_coefficients R d f m _ _ (sigma_coefficients (emb R d f m x) ∙ fun_ext (constant x));
    order = λ b. X.by_coefficients R d f m _ _ (fun_ext (λ k. iterate_coefficients (suc d) b k
        ∙ Basics.mul_from_one R _ _ (power-root R c (suc d) root k)));
    fixed = λ b e. (at R.ops b.0 zero, X.by_coefficients R d f m _ _ (fun_ext (each_coefficient b e) ∙ sym (X.at-embed R d f m (at R.ops b.0 zero))));
  }
    where
      constant : (x : A) (k : ℕ) → power R.ops c k ⊗ at R.ops (embed R.ops (suc d) x) k ≡ at R.ops (embed R.ops (suc d) x) k
      constant x zero = Basics.one-mul R x
      constant x (suc k) = ap (λ v. power R.ops c (suc k) ⊗ v) (ap (λ s. s (suc k)) (X.at-embed R d f m x)) ∙ Basics.mul-zero R _
          ∙ sym (ap (λ s. s (suc k)) (X.at-embed R d f m x))

      each_coefficient : (b : Ext R d f m) → sigma b ≡ b → (k : ℕ) → at R.ops b.0 k ≡ at R.ops (at R.ops b.0 zero ∷ []) k
      each_coefficient b e zero = refl
      each_coefficient b e (suc k) = elim (cases_lt (suc k) (suc d)) [
        | inl lt ↦ cancels R (power R.ops c (suc k)) (at R.ops b.0 (suc k)) (sym (ap (λ s. s (suc k)) (sigma_coefficients b)) ∙ ap (λ v. at R.ops v.0 (suc k)) e) (apart (suc k) (omega arith) lt)
        | inr ge ↦ Q.small R d f m b.0 b.1 (suc k) ge
      ]

  -- a value has an inverse exactly where its norm has one
  module _ (apart : (k : ℕ) → 1 ≤ k → k < suc d → Invertible R.ops (power R.ops c k ⊕ neg 𝟏)) where
    injective : (x y : A) → emb R d f m x ≡ emb R d f m y → x ≡ y
    injective x y e = ap (λ v. at R.ops v.0 zero) e

    pub norm : Ext R d f m → A
    norm = N.norm R E (emb R d f m) (Sg.hom R d f m) injective d sigma (frobenius apart)

    pub norm_is : (a : Ext R d f m) → orbit_product R.ops E.ops (emb R d f m) (suc d) sigma a ≡ emb R d f m (norm a)
    unfolding norm
    norm_is = N.norm_is R E (emb R d f m) (Sg.hom R d f m) injective d sigma (frobenius apart)

    pub inverse_exact : (a : Ext R d f m) → Invertible E.ops a ↔ Invertible R.ops (norm a)
    unfolding norm
    inverse_exact = N.inverse_exact R E (emb R d f m) (Sg.hom R d f m) injective d sigma (frobenius apart)

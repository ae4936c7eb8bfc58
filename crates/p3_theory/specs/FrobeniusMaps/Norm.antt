-- A value has an inverse exactly where its norm, an embedded base value, has one.
use Rattle.std.proofs.Common.{◌≡◌, ℕ, zero, suc, ◌↔◌, refl, sym, ap, ◌∙◌, ap₂}
use Rattle.p3_theory.specs.Rings.Ring.{Ring, Hom, Invertible}
use Rattle.p3_theory.specs.Rings.Basics.{swap_factors}
use Rattle.p3_theory.specs.FrobeniusMaps.Frobenius.{iterate, IsFrobenius, orbit_product}

module _ {A B : Type 0} (R : Ring A) (E : Ring B) (e : A → B) (hom : Hom R.ops E.ops e) (injective : (x y : A) → e x ≡ e y → x ≡ y)
    (n : ℕ) (sigma : B → B) (F : IsFrobenius R.ops E.ops e (suc n) sigma) where
  open E use {mul as ◌⊗◌}

  infixl 70 ◌⊗◌
  P : ℕ → B → B
  P k b = orbit_product R.ops E.ops e k sigma b

  sigma-one : sigma E.one ≡ E.one
  sigma-one = ap sigma (sym hom.one) ∙ F.embedded R.one ∙ hom.one

  sigma-P : (k : ℕ) (b : B) → sigma (P k b) ≡ P k (sigma b)
  unfolding P
  sigma-P zero b = sigma-one
  sigma-P (suc k) b = F.mul b (P k (sigma b)) ∙ ap (λ w. sigma b ⊗ w) (sigma-P k (sigma b))

  P-end : (k : ℕ) (b : B) → P (suc k) b ≡ P k b ⊗ iterate sigma k b
  unfolding P
  P-end zero b = E.mul_comm b E.one
  P-end (suc k) b = ap (λ w. b ⊗ w) (P-end k (sigma b)) ∙ sym (E.mul_assoc _ _ _)

  P-mul : (k : ℕ) (b c : B) → P k (b ⊗ c) ≡ P k b ⊗ P k c
  unfolding P
  P-mul zero b c = sym (E.mul_one E.one)
  P-mul (suc k) b c = ap (λ w. (b ⊗ c) ⊗ P k w) (F.mul b c) ∙ ap (λ w. (b ⊗ c) ⊗ w) (P-mul k (sigma b) (sigma c))
      ∙ swap_factors E b c _ _

  P-one : (k : ℕ) → P k E.one ≡ E.one
  unfolding P
  P-one zero = refl
  P-one (suc k) = ap (λ w. E.one ⊗ P k w) sigma-one ∙ ap (λ w. E.one ⊗ w) (P-one k) ∙ E.mul_one E.one

  -- the orbit's product is unchanged by sigma
  P-fixed : (b : B) → sigma (P (suc n) b) ≡ P (suc n) b
  unfolding P
  P-fixed b = sigma-P (suc n) b ∙ P-end n (sigma b) ∙ ap (λ w. P n (sigma b) ⊗ w) (F.order b) ∙ E.mul_comm _ b

  -- the norm
  pub norm : B → A
  norm b = (F.fixed (P (suc n) b) (P-fixed b)).0

  pub norm_is : (b : B) → orbit_product R.ops E.ops e (suc n) sigma b ≡ e (norm b)
  unfolding norm P
  norm_is b = (F.fixed (P (suc n) b) (P-fixed b)).1

  pub inverse_exact : (b : B) → Invertible E.ops b ↔ Invertible R.ops (norm b)
  unfolding P
  inverse_exact b = (to, from)
    where
      to : Invertible E.ops b → Invertible R.ops (norm b)
      to (c, is) = (
        norm c,
        injective _ _ (hom.mul _ _ ∙ sym (ap₂ (λ x y. x ⊗ y) (norm_is b) (norm_is c)) ∙ sym (P-mul (suc n) b c)
            ∙ ap (P (suc n)) is ∙ P-one (suc n) ∙ sym hom.one),
      )

      from : Invertible R.ops (norm b) → Invertible E.ops b
      from (y, is) = (
        P n (sigma b) ⊗ e y,
        sym (E.mul_assoc b (P n (sigma b)) (e y)) ∙ ap (λ w. w ⊗ e y) (norm_is b)
            ∙ sym (hom.mul _ _) ∙ ap e is ∙ hom.one,
      )

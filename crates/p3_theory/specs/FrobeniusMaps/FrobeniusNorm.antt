-- From the laws of a Frobenius map: a value has an inverse exactly where its norm has one. Modulo X^D - w the image c * X has these laws.
use Rattle.std.proofs.Common.{◌≡◌, ◌≤◌, ◌<◌, ◌↔◌, ℕ, zero, suc, List, refl, sym, ap, ◌∙◌, ap₂}
use Rattle.p3_theory.specs.Rings.Ring.{Ring, Invertible}
use Rattle.p3_theory.specs.Polynomials.Polynomial.{at, IsMonic, quotient_add, quotient_mul, embed, binomial}
use Rattle.p3_theory.specs.Rings.Powers.{power, scale_powers}
use Rattle.p3_theory.specs.FrobeniusMaps.Frobenius.{iterate, IsFrobenius, orbit_product}
use Rattle.p3_theory.specs.Rings.Basics as Basics
use Rattle.p3_theory.specs.Polynomials.Coefficients as F
use Rattle.p3_theory.specs.Polynomials.Congruence as Q
use Rattle.p3_theory.specs.Polynomials.QuotientRing as X
use Rattle.p3_theory.specs.Polynomials.QuotientRing.{Ext, extension}
use Rattle.p3_theory.specs.Polynomials.Substitution as Sg
use Rattle.p3_theory.specs.Polynomials.Substitution.{emb}
use Rattle.p3_theory.specs.FrobeniusMaps.Norm as N
use Rattle.p3_theory.specs.FrobeniusMaps.BinomialFrobenius as Bi
use Rattle.p3_theory.specs.FrobeniusMaps.FrobeniusTable.{frobenius_list, IsFrobeniusTable, unknown}
use Rattle.p3_theory.specs.FrobeniusMaps.FrobeniusTableLaws as T

module _ {A : Type 0} (R : Ring A) (d : ℕ) (f : List A) (m : IsMonic R.ops (suc d) f) (phi : List A) (L : IsFrobeniusTable R.ops (suc d) f phi) where
  abbrev E : Ring (Ext R d f m)
  E = extension R d f m

  -- the map by its table, on lists with their length
  abbrev pub sig : Ext R d f m → Ext R d f m
  sig a = (frobenius_list R.ops (suc d) f phi a.0, T.length-frobenius_list R.ops (suc d) f phi a.0)

  iterate-sig : (n : ℕ) (a : Ext R d f m) → (iterate sig n a).0 ≡ iterate (frobenius_list R.ops (suc d) f phi) n a.0
  iterate-sig zero a = refl
  iterate-sig (suc n) a = iterate-sig n (sig a)

  pub frobenius : IsFrobenius R.ops E.ops (emb R d f m) (suc d) sig
  frobenius = record {
    mul = λ a b. X.Ext-path R d f m _ _ (L.mul a.0 b.0 a.1 b.1);
    embedded = λ x. X.Ext-path R d f m _ _ (L.embedded x);
    order = λ b. X.Ext-path R d f m _ _ (iterate-sig (suc d) b ∙ L.order b.0 b.1);
    fixed = λ b e. let r = L.fixed b.0 b.1 (ap (λ z. z.0) e) in (r.0, X.Ext-path R d f m _ _ r.1);
  }

  injective : (x y : A) → emb R d f m x ≡ emb R d f m y → x ≡ y
  injective x y e = ap (λ v. at R.ops v.0 zero) e

  pub norm : Ext R d f m → A
  norm = N.norm R E (emb R d f m) (Sg.hom R d f m) injective d sig frobenius

  pub norm_is : (a : Ext R d f m) → orbit_product R.ops E.ops (emb R d f m) (suc d) sig a ≡ emb R d f m (norm a)
  unfolding norm
  norm_is = N.norm_is R E (emb R d f m) (Sg.hom R d f m) injective d sig frobenius

  pub inverse_exact : (a : Ext R d f m) → Invertible E.ops a ↔ Invertible R.ops (norm a)
  unfolding norm
  inverse_exact = N.inverse_exact R E (emb R d f m) (Sg.hom R d f m) injective d sig frobenius

-- the same law for X^D = w
module _ {A : Type 0} (R : Ring A) (d : ℕ) (w c : A) (root : power R.ops c (suc d) ≡ R.one) where
  abbrev f : List A
  f = binomial R.ops (suc d) w

  abbrev m : IsMonic R.ops (suc d) f
  m = Bi.binomial_monic R d w

  abbrev EB : Ring (Ext R d f m)
  EB = extension R d f m

  -- c * X
  abbrev pub turned : List A
  turned = quotient_mul R.ops (suc d) f (embed R.ops (suc d) c) (unknown R.ops (suc d) f)

  -- the map is one factor for each index
  pub turned_coefficients : (a : Ext R d f m) → frobenius_list R.ops (suc d) f turned a.0 ≡ scale_powers R.ops (suc d) c a.0
  turned_coefficients a = sym (T.frobenius-list R d f m (Bi.image R d w c root) a)
      ∙ F.ext R _ _ ((Bi.sigma R d w c root a).1 ∙ sym (F.length-tabulate (suc d) (λ k. R.mul (power R.ops c k) (at R.ops a.0 k))))
      (Bi.sigma_coefficients R d w c root a ∙ sym (F.at-tabulate R (suc d) (λ k. R.mul (power R.ops c k) (at R.ops a.0 k))
      (λ k le. ap (R.mul (power R.ops c k)) (Q.small R d f m a.0 a.1 k le) ∙ Basics.mul-zero R _)))

  iterate-list : (n : ℕ) (a : Ext R d f m) → (iterate (Bi.sigma R d w c root) n a).0 ≡ iterate (frobenius_list R.ops (suc d) f turned) n a.0
  iterate-list zero a = refl
  iterate-list (suc n) a = iterate-list n (Bi.sigma R d w c root a)
      ∙ ap (iterate (frobenius_list R.ops (suc d) f turned) n) (T.frobenius-list R d f m (Bi.image R d w c root) a)

  pub turned_laws : ((k : ℕ) → 1 ≤ k → k < suc d → Invertible R.ops (R.add (power R.ops c k) (R.neg R.one))) → IsFrobeniusTable R.ops (suc d) f turned
  turned_laws apart = record {
    width = X.length-mul R d f m (embed R.ops (suc d) c) (unknown R.ops (suc d) f);
    add = λ a b la lb. sym (list (EB.add (a, la) (b, lb))) ∙ ap (λ z. z.0) (Sg.sigma_add R d f m (Bi.image R d w c root) (a, la) (b, lb))
        ∙ ap₂ (quotient_add R.ops (suc d)) (list (a, la)) (list (b, lb));
    mul = λ a b la lb. sym (list (EB.mul (a, la) (b, lb))) ∙ ap (λ z. z.0) ((Bi.frobenius R d w c root apart).mul (a, la) (b, lb))
        ∙ ap₂ (quotient_mul R.ops (suc d) f) (list (a, la)) (list (b, lb));
    embedded = λ x. sym (list (emb R d f m x)) ∙ ap (λ z. z.0) ((Bi.frobenius R d w c root apart).embedded x);
    order = λ a la. sym (iterate-list (suc d) (a, la)) ∙ ap (λ z. z.0) ((Bi.frobenius R d w c root apart).order (a, la));
    fixed = λ a la e. let r = (Bi.frobenius R d w c root apart).fixed (a, la) (X.Ext-path R d f m _ _ (list (a, la) ∙ e)) in (r.0, ap (λ z. z.0) r.1);
  }
    where
      list : (a : Ext R d f m) → (Bi.sigma R d w c root a).0 ≡ frobenius_list R.ops (suc d) f turned a.0
      list = T.frobenius-list R d f m (Bi.image R d w c root)

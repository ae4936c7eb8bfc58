-- Coefficients times the powers of c, taken many times.
use Rattle.std.proofs.Common.{◌≡◌, ◌<◌, ℕ, zero, suc, List, length, refl, sym, ap, ◌∙◌}
use Rattle.p3_theory.specs.Rings.Ring.{Ring}
use Rattle.p3_theory.specs.Polynomials.Polynomial.{at}
use Rattle.p3_theory.specs.Rings.Powers.{power, scale_powers}
use Rattle.p3_theory.specs.FrobeniusMaps.Frobenius.{iterate}
use Rattle.p3_theory.specs.Rings.Basics.{mul_from_one}
use Rattle.p3_theory.specs.Rings.PowerProducts.{power-mul, power_of_one}
use Rattle.p3_theory.specs.Polynomials.Coefficients.{length-tabulate}
use Rattle.p3_theory.specs.Lists.ByIndex.{get-tabulate, to-tabulate}

-- two maps that agree on the values of a kind, which the first one keeps, agree taken n times
pub iterate-same : {B : Type 0} (P : B → Type 0) (s t : B → B) → ((b : B) → P b → P (s b)) → ((b : B) → P b → s b ≡ t b)
    → (n : ℕ) (b : B) → P b → iterate s n b ≡ iterate t n b
iterate-same P s t keeps same zero b p = refl
iterate-same P s t keeps same (suc n) b p = iterate-same P s t keeps same n (s b) (keeps b p) ∙ ap (iterate t n) (same b p)

module _ {A : Type 0} (R : Ring A) where
  module _ (D : ℕ) where
    pub length-scale_powers : (c : A) (a : List A) → length (scale_powers R.ops D c a) ≡ D
    length-scale_powers c a = length-tabulate D (λ k. R.mul (power R.ops c k) (at R.ops a k))

    at-scale_powers : (c : A) (a : List A) (k : ℕ) → k < D → at R.ops (scale_powers R.ops D c a) k ≡ R.mul (power R.ops c k) (at R.ops a k)
    at-scale_powers c a k h = get-tabulate D (λ j. R.mul (power R.ops c j) (at R.ops a j)) k R.zero h

    scale-one : (a : List A) → length a ≡ D → scale_powers R.ops D R.one a ≡ a
    scale-one a l = sym (to-tabulate R.zero D (λ k. R.mul (power R.ops R.one k) (at R.ops a k)) a l
        (λ k h. sym (mul_from_one R _ (at R.ops a k) (power_of_one R.laws k))))

    scale-product : (x y : A) (a : List A) → scale_powers R.ops D (R.mul x y) a ≡ scale_powers R.ops D y (scale_powers R.ops D x a)
    scale-product x y a = to-tabulate R.zero D (λ k. R.mul (power R.ops y k) (at R.ops (scale_powers R.ops D x a) k))
        (scale_powers R.ops D (R.mul x y) a) (length-scale_powers (R.mul x y) a)
        (λ k h. at-scale_powers (R.mul x y) a k h ∙ ap (λ z. R.mul z (at R.ops a k)) (ap (λ z. power R.ops z k) (R.mul_comm x y) ∙ power-mul R.laws y x k)
        ∙ R.mul_assoc (power R.ops y k) (power R.ops x k) (at R.ops a k) ∙ ap (R.mul (power R.ops y k)) (sym (at-scale_powers x a k h)))

    -- one factor for each index for any count of turns
    pub scale-power : (c : A) (n : ℕ) (a : List A) → length a ≡ D → scale_powers R.ops D (power R.ops c n) a ≡ iterate (scale_powers R.ops D c) n a
    scale-power c zero a l = scale-one a l
    scale-power c (suc n) a l = scale-product c (power R.ops c n) a ∙ scale-power c n (scale_powers R.ops D c a) (length-scale_powers c a)

-- The product with an embedded element, index by index.
use Rattle.std.proofs.Common.{◌≡◌, ◌≤◌, ℕ, zero, suc, List, ◌∷◌, [], length, sym, ap, ◌∙◌}
use mathlib.Core.Path.{fun_ext}
use native.Mathlib.Omega.{arith}
use Rattle.p3_theory.specs.Rings.Ring.{Ops, Ring}
use Rattle.p3_theory.specs.Polynomials.Polynomial.{tabulate, at, convolve, IsMonic, quotient_mul, embed}
use Rattle.p3_theory.specs.Rings.Basics.{zero-mul}
use Rattle.p3_theory.specs.Polynomials.Sequences.{conv_comm}
use Rattle.p3_theory.specs.Polynomials.Coefficients as F
use Rattle.p3_theory.specs.Polynomials.QuotientRing as Q

-- each coefficient times x
abbrev pub scaled : {A : Type 0} → Ops A → ℕ → List A → A → List A
scaled o D a x = tabulate D (λ k. o.mul (at o a k) x)

module _ {A : Type 0} (R : Ring A) where
  module _ (d : ℕ) (f : List A) (m : IsMonic R.ops (suc d) f) (a : List A) (x : A) (l : length a ≡ suc d) where
    abbrev times_x : ℕ → A
    times_x k = R.mul (at R.ops a k) x

    ends : F.Ends R (suc d) times_x
    ends k h = ap (λ z. R.mul z x) (F.at-ends R a k (omega arith)) ∙ zero-mul R x

    is_convolution : at R.ops (scaled R.ops (suc d) a x) ≡ convolve R.ops (at R.ops a) (at R.ops (embed R.ops (suc d) x))
    is_convolution = F.at-tabulate R (suc d) times_x ends
        ∙ fun_ext (λ k. R.mul_comm (at R.ops a k) x ∙ sym (Q.const-scale R d f m x (at R.ops a) k))
        ∙ conv_comm R (at R.ops (x ∷ [])) (at R.ops a)
        ∙ ap (convolve R.ops (at R.ops a)) (sym (Q.at-embed R d f m x))

    scaled-suc : scaled R.ops (suc d) a x ≡ quotient_mul R.ops (suc d) f a (embed R.ops (suc d) x)
    scaled-suc = Q.equal R d f m _ _ (F.length-tabulate (suc d) (λ k. R.mul (at R.ops a k) x)) (Q.length-mul R d f m a (embed R.ops (suc d) x))
        (Q.chain R d f m (Q.same R d f m is_convolution) (Q.mul~ R d f m a (embed R.ops (suc d) x)))

  pub base_product : (D : ℕ) → 1 ≤ D → (f : List A) → IsMonic R.ops D f → (a : List A) (x : A) → length a ≡ D
      → scaled R.ops D a x ≡ quotient_mul R.ops D f a (embed R.ops D x)
  base_product zero h f m a x l = absurd (omega arith)
  base_product (suc d) h f m a x l = scaled-suc d f m a x l

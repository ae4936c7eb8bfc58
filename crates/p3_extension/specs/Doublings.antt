-- Halves and products with powers of two, coefficient by coefficient.
use Rattle.std.specs.Prelude.{◌≡◌, ◌<◌, ◌≤◌, ℕ, List, [], ◌∷◌, get_or, refl}
use Rattle.std.proofs.Common.{ap, arith, ◌∙◌, sym, subst}
use Rattle.p3_theory.specs.Rings.Ring.{Ops, Ring, RingLaws, Invertible}
use Rattle.p3_theory.specs.Polynomials.Polynomial.{IsMonic, at}
use Rattle.p3_theory.specs.Rings.Powers.{power}
use Rattle.p3_theory.specs.Rings.PowerProducts.{twice}
use Rattle.p3_theory.specs.Rings.Multiples.{two}
use Rattle.p3_theory.specs.Lists.ByIndex.{get-tabulate, to-tabulate}
use Rattle.p3_theory.specs.Rings.AdditiveMaps.{additive-power_of_two}
use Rattle.p3_extension.specs.Values.{ext_ops, ext_laws, same_value}
use Rattle.p3_extension.specs.declared.extension.ext_field.ExtField.{ExtField}

module _ (F S : Type 0) {A : Type 0} (R : Ring A) (D : ℕ) (degree : 2 ≤ D) (f : List A) (monic : IsMonic R.ops D f) where
  abbrev B : Type 0
  B = ExtField F D S A

  abbrev E : Ops B
  E = ext_ops R.ops f

  abbrev laws : RingLaws E
  laws = ext_laws R D degree f monic

  abbrev coefficient : ℕ → B → A
  coefficient k x = at R.ops x.value k

  coefficient-add : (k : ℕ) → k < D → (x y : B) → coefficient k (E.add x y) ≡ R.add (coefficient k x) (coefficient k y)
  coefficient-add k h x y = get-tabulate D (λ i. R.add (coefficient i x) (coefficient i y)) k R.zero h

  coefficients_decide : (x y : B) → ((k : ℕ) → k < D → coefficient k x ≡ coefficient k y) → x ≡ y
  coefficients_decide x y h =
      same_value x y (to-tabulate R.zero D (λ k. coefficient k y) x.value x.sized h ∙ sym (to-tabulate R.zero D (λ k. coefficient k y) y.value y.sized (λ k w. refl)))

  -- where two has an inverse in the extension, it has one in the coefficients
  pub half_of_base : Invertible E (two E) → Invertible R.ops (two R.ops)
  half_of_base (y, h) =
      let first : 0 < D = omega arith in
      let half : E.add y y ≡ E.one = sym (twice laws y) ∙ laws.mul_comm y (two E) ∙ h in
      let sum : R.add (coefficient 0 y) (coefficient 0 y) ≡ R.one =
      sym (coefficient-add 0 first y y) ∙ ap (coefficient 0) half ∙ get-tabulate D (at R.ops (R.one ∷ [])) 0 R.zero first in
      (coefficient 0 y, R.mul_comm _ _ ∙ twice R.laws (coefficient 0 y) ∙ sum)

  -- what a loop wrote up to D holds of the coefficients
  pub of_written : (P : A → A → Type 0) (x r : B) (v : List A) (i : ℕ) → D ≤ i → r.value ≡ v
      → ((d : A) (k : ℕ) → k < i → P (get_or v k d) (get_or x.value k d)) → (k : ℕ) → k < D → P (coefficient k r) (coefficient k x)
  of_written P x r v i h e w k lt =
      let Q : List A → Type 0 = λ u. P (at R.ops u k) (coefficient k x) in
      subst Q (sym e) (w R.zero k (omega arith))

  -- the halves of the coefficients make the half
  pub half_by_coefficients : (x r : B) → ((k : ℕ) → k < D → R.add (coefficient k r) (coefficient k r) ≡ coefficient k x) → E.add r r ≡ x
  half_by_coefficients x r h = coefficients_decide (E.add r r) x (λ k w. coefficient-add k w r r ∙ h k w)

  -- so do products with a power of two
  pub product_by_coefficients : (x r : B) (n : ℕ) → ((k : ℕ) → k < D → coefficient k r ≡ R.mul (coefficient k x) (power R.ops (two R.ops) n))
      → r ≡ E.mul x (power E (two E) n)
  product_by_coefficients x r n h =
      coefficients_decide r (E.mul x (power E (two E) n))
      (λ k w. h k w ∙ sym (additive-power_of_two laws R.laws (coefficient k) (coefficient-add k w) x n))

  -- and quotients by it
  pub quotient_by_coefficients : (x r : B) (n : ℕ) → ((k : ℕ) → k < D → R.mul (coefficient k r) (power R.ops (two R.ops) n) ≡ coefficient k x)
      → E.mul r (power E (two E) n) ≡ x
  quotient_by_coefficients x r n h =
      coefficients_decide (E.mul r (power E (two E) n)) x
      (λ k w. additive-power_of_two laws R.laws (coefficient k) (coefficient-add k w) r n ∙ h k w)

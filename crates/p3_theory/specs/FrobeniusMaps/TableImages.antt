-- The image of a coefficient list under a map that takes X^i to row i of a table, index by index.
use Rattle.std.proofs.Common.{◌≡◌, ◌<◌, ◌≤◌, ◌+◌, ◌-◌, ℕ, zero, suc, List, [], ◌∷◌, length, get_or, sym, ap, ap₂, ◌∙◌, arith}
use mathlib.Core.Path.{fun_ext}
use Rattle.p3_theory.specs.Rings.Ring.{Ops, Ring}
use Rattle.p3_theory.specs.Polynomials.Polynomial.{at, embed}
use Rattle.p3_theory.specs.Rings.Powers.{sum_of}
use Rattle.p3_theory.specs.Lists.ByIndex.{get-tabulate, to-tabulate}
use Rattle.p3_theory.specs.Lists.TabulatedEntries.{HoldsBelow}
use Rattle.p3_theory.specs.FrobeniusMaps.FrobeniusTable.{row_sum}
use Rattle.p3_theory.specs.Rings.Basics.{add_from_zero, mul-zero}
use Rattle.p3_theory.specs.Polynomials.ConvolutionSums.{first_sum, first-sum}

-- what the coefficients from X on give to index k
abbrev pub rest_of_image : {A : Type 0} → Ops A → ℕ → (ℕ → List A) → List A → ℕ → A
rest_of_image O D row a k = first_sum O.zero O.add (D - 1) (λ i. O.mul (get_or a (1 + i) O.zero) (get_or (row (1 + i)) k O.zero))

-- index k of the image, where the first row is one
abbrev pub coefficient_of_image : {A : Type 0} → Ops A → ℕ → (ℕ → List A) → List A → ℕ → A
coefficient_of_image O D row a zero = O.add (get_or a 0 O.zero) (rest_of_image O D row a 0)
coefficient_of_image O D row a (suc k) = rest_of_image O D row a (suc k)

module _ {A : Type 0} (R : Ring A) (d : ℕ) (row : ℕ → List A) (one : row 0 ≡ embed R.ops (suc d) R.one) (a : List A) where
  whole : (k : ℕ) → sum_of R.ops (suc d) (λ i. R.mul (at R.ops a i) (at R.ops (row i) k))
      ≡ R.add (R.mul (at R.ops a 0) (at R.ops (row 0) k)) (rest_of_image R.ops (suc d) row a k)
  whole k =
      let t : ℕ → A = λ j. R.mul (at R.ops a j) (at R.ops (row j) k) in
      let count : d ≡ suc d - 1 = omega arith in
      ap (R.add (t 0)) (sym (first-sum R d (λ i. t (suc i))) ∙ ap₂ (first_sum R.zero R.add) count (fun_ext (λ i. ap t (next i))))
    where
      next : (i : ℕ) → suc i ≡ 1 + i
      next i = omega arith

  first_row : (k : ℕ) → k < suc d → at R.ops (row 0) k ≡ at R.ops (R.one ∷ []) k
  first_row k h = ap (λ l. at R.ops l k) one ∙ get-tabulate (suc d) (at R.ops (R.one ∷ [])) k R.zero h

  pub coefficient-of-image : (k : ℕ) → k < suc d → coefficient_of_image R.ops (suc d) row a k ≡ sum_of R.ops (suc d) (λ i. R.mul (at R.ops a i) (at R.ops (row i) k))
  coefficient-of-image zero h =
      sym (whole 0 ∙ ap (λ x. R.add x (rest_of_image R.ops (suc d) row a 0)) (ap (R.mul (at R.ops a 0)) (first_row 0 h) ∙ R.mul_one (at R.ops a 0)))
  coefficient-of-image (suc k) h =
      sym (whole (suc k) ∙ add_from_zero R _ _ (ap (R.mul (at R.ops a 0)) (first_row (suc k) h) ∙ mul-zero R (at R.ops a 0)))

-- the indices make the image
pub image-written : {A : Type 0} (R : Ring A) (D : ℕ) → 2 ≤ D → (row : ℕ → List A) → row 0 ≡ embed R.ops D R.one → (a xs : List A) → length xs ≡ D
    → HoldsBelow (coefficient_of_image R.ops D row a) R.zero xs D → xs ≡ row_sum R.ops D row a
image-written R zero h row one a xs l w = absurd (omega arith)
image-written R (suc d) h row one a xs l w = to-tabulate R.zero (suc d) _ xs l (λ k lt. w k lt ∙ coefficient-of-image R d row one a k lt)

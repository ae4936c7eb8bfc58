-- Extensions by X^2 = w without zero divisors: those in which only zero has the norm zero.
use Rattle.std.specs.Prelude.{◌≡◌, ◌⊎◌, ◌==◌, ◌&&◌, ◌||◌, Bool, true, false, not, ℕ, List, [], ◌∷◌, length, get_or, refl}
use Rattle.std.proofs.Common.{ap, ap₂, ◌∙◌, sym, inl, inr, eqb-true, eq-eqb}
use Rattle.p3_theory.specs.Rings.Ring.{Ops, Ring, Hom}
use Rattle.p3_theory.specs.Polynomials.Polynomial.{at, quotient_mul, binomial, embed}
use Rattle.p3_theory.specs.Lists.ByIndex.{to-tabulate}
use Rattle.p3_theory.specs.RingSolver.Solver.{V, free}
use Rattle.p3_theory.specs.RingSolver.SolverSound.{and_true}
use Rattle.p3_theory.specs.RingSolver.Formula.{by_ring}
use Rattle.p3_theory.specs.ResidueRings.Residues.{AreResidues, residues}
use Rattle.p3_theory.specs.Rings.ZeroDivisors.{HasNoZeroDivisors, holds_below, at_below}
use Rattle.p3_theory.specs.Inverses.QuadraticNorm.{quadratic_norm, norms_of}

-- only zero has the norm zero
abbrev pub OnlyZeroHasNormZero : {A : Type 0} → Ops A → A → Type 0
OnlyZeroHasNormZero {A} O w = (x y : A) → quadratic_norm O w x y ≡ O.zero → (x ≡ O.zero) × (y ≡ O.zero)

module _ {A : Type 0} (R : Ring A) (w : A) where
  norm_of_zero : quadratic_norm R.ops w R.zero R.zero ∷ [] ≡ R.zero ∷ []
  norm_of_zero = by_ring R (w ∷ []) (quadratic_norm free (V 0) free.zero free.zero ∷ []) (free.zero ∷ []) refl

  -- norms keep products, so a product that is zero has a factor with the norm zero
  pub quadratic_domain : HasNoZeroDivisors R.ops → OnlyZeroHasNormZero R.ops w → (a b : List A) → length a ≡ 2 → length b ≡ 2
      → quotient_mul R.ops 2 (binomial R.ops 2 w) a b ≡ embed R.ops 2 R.zero → (a ≡ embed R.ops 2 R.zero) ⊎ (b ≡ embed R.ops 2 R.zero)
  quadratic_domain domain exact a b la lb e =
      let x = at R.ops a in
      let y = at R.ops b in
      let ea : a ≡ x 0 ∷ x 1 ∷ [] = to-tabulate R.zero 2 x a la (λ k lt. refl) in
      let eb : b ≡ y 0 ∷ y 1 ∷ [] = to-tabulate R.zero 2 y b lb (λ k lt. refl) in
      let norm = λ (c : List A). quadratic_norm R.ops w (get_or c 0 R.zero) (get_or c 1 R.zero) in
      let none : R.mul (norm a) (norm b) ≡ R.zero =
      ap (λ l. get_or l 0 R.zero) (norms_of R w (x 0) (x 1) (y 0) (y 1))
      ∙ ap norm (sym (λ i. quotient_mul R.ops 2 (binomial R.ops 2 w) (ea i) (eb i)) ∙ e) ∙ ap (λ l. get_or l 0 R.zero) norm_of_zero in
      elim (domain (norm a) (norm b) none) [
        | inl p ↦ let z = exact (x 0) (x 1) p in inl (ea ∙ ap₂ (λ u v. u ∷ v ∷ []) z.0 z.1)
        | inr p ↦ let z = exact (y 0) (y 1) p in inr (eb ∙ ap₂ (λ u v. u ∷ v ∷ []) z.0 z.1)
      ]

-- whether of the pairs of numbers below n only 0, 0 has the norm 0 modulo n
abbrev pub only_zero_has_norm_zero : ℕ → ℕ → Bool
only_zero_has_norm_zero n w = holds_below n (λ x. holds_below n (λ y. not (quadratic_norm (residues n) w x y == 0) || (x == 0 && y == 0)))

implies : (a b : Bool) → not a || b ≡ true → a ≡ true → b ≡ true
implies true b h k = h
implies false b h k = absurd (cc k)

-- what the test says of residues, k being the number of w
pub residues_only_zero : {A : Type 0} {n : ℕ} {O : Ops A} {canon : A → ℕ} → AreResidues n O canon → (w : A) (k : ℕ) → canon w ≡ k → only_zero_has_norm_zero n k ≡ true
    → OnlyZeroHasNormZero O w
residues_only_zero {A} {n} {O} {canon} is w k w_is test x y none =
    let h : Hom O (residues n) canon = is.keeps in
    let norm_is : canon (quadratic_norm O w x y) ≡ quadratic_norm (residues n) k (canon x) (canon y) =
    h.add _ _ ∙ ap₂ (residues n).add (h.mul x x)
    (h.add _ _ ∙ ap₂ (residues n).add (h.mul _ _ ∙ ap₂ (residues n).mul (h.neg y) (h.mul w y ∙ ap (λ v. (residues n).mul v (canon y)) w_is)) h.zero) in
    let t = at_below n _ (at_below n (λ x. holds_below n (λ y. not (quadratic_norm (residues n) k x y == 0) || (x == 0 && y == 0))) test (canon x) (is.below x)) (canon y) (is.below y) in
    let both = and_true _ _ (implies _ _ t (eq-eqb _ _ (sym norm_is ∙ ap canon none ∙ h.zero))) in
    (is.same x O.zero (eqb-true _ _ both.0 ∙ sym h.zero), is.same y O.zero (eqb-true _ _ both.1 ∙ sym h.zero))

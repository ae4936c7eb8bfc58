-- The norm modulo X^2 = w, and which values have an inverse.
use Rattle.std.proofs.Common.{◌≡◌, ◌≢◌, List, [], ◌∷◌, refl, sym, ap, ◌∙◌, get_or}
use Rattle.p3_theory.specs.Rings.Ring.{Ops, Ring}
use Rattle.p3_theory.specs.Polynomials.Polynomial.{at, quotient_mul, binomial, embed}
use Rattle.p3_theory.specs.Rings.DotProduct.{dot}
use Rattle.p3_theory.specs.Lists.ByIndex.{to-tabulate}
use Rattle.p3_theory.specs.RingSolver.Solver.{Expr, V, free}
use Rattle.p3_theory.specs.RingSolver.Formula.{by_ring}
use Rattle.p3_theory.specs.Inverses.ListInverses.{HasNoInverse}

module _ {A : Type 0} (O : Ops A) where
  -- a0^2 - w * a1^2
  abbrev pub quadratic_norm : A → A → A → A
  quadratic_norm w a0 a1 = dot O (a0 ∷ O.neg a1 ∷ []) (a0 ∷ O.mul w a1 ∷ [])

  -- the conjugate times m
  abbrev pub quadratic_rest : A → A → A → List A
  quadratic_rest m a0 a1 = O.mul a0 m ∷ O.mul (O.neg a1) m ∷ []

module _ {A : Type 0} (R : Ring A) (w : A) where
  rest_gives_norm : (m a0 a1 : A) → quotient_mul R.ops 2 (binomial R.ops 2 w) (a0 ∷ a1 ∷ []) (quadratic_rest R.ops m a0 a1)
      ≡ R.mul (quadratic_norm R.ops w a0 a1) m ∷ R.zero ∷ []
  rest_gives_norm m a0 a1 =
      by_ring R (w ∷ m ∷ a0 ∷ a1 ∷ []) (quotient_mul free 2 (binomial free 2 (V 0)) (V 2 ∷ V 3 ∷ []) (quadratic_rest free (V 1) (V 2) (V 3)))
      (free.mul (quadratic_norm free (V 0) (V 2) (V 3)) (V 1) ∷ free.zero ∷ []) refl

  pub norms_of : (a0 a1 b0 b1 : A) → (let c : List A = quotient_mul R.ops 2 (binomial R.ops 2 w) (a0 ∷ a1 ∷ []) (b0 ∷ b1 ∷ []) in
      R.mul (quadratic_norm R.ops w a0 a1) (quadratic_norm R.ops w b0 b1) ∷ [] ≡ quadratic_norm R.ops w (get_or c 0 R.zero) (get_or c 1 R.zero) ∷ [])
  norms_of a0 a1 b0 b1 =
      let c : List Expr = quotient_mul free 2 (binomial free 2 (V 4)) (V 0 ∷ V 1 ∷ []) (V 2 ∷ V 3 ∷ []) in
      by_ring R (a0 ∷ a1 ∷ b0 ∷ b1 ∷ w ∷ []) (free.mul (quadratic_norm free (V 4) (V 0) (V 1)) (quadratic_norm free (V 4) (V 2) (V 3)) ∷ [])
      (quadratic_norm free (V 4) (get_or c 0 free.zero) (get_or c 1 free.zero) ∷ []) refl

  norm_of_one : quadratic_norm R.ops w R.one R.zero ∷ [] ≡ R.one ∷ []
  norm_of_one = by_ring R (w ∷ []) (quadratic_norm free (V 0) free.one free.zero ∷ []) (free.one ∷ []) refl

  -- the conjugate divided by the norm is an inverse
  pub quadratic_found : (a r : List A) (a0 a1 n m : A) → a ≡ a0 ∷ a1 ∷ [] → n ≡ quadratic_norm R.ops w a0 a1 → R.mul n m ≡ R.one → r ≡ quadratic_rest R.ops m a0 a1
      → quotient_mul R.ops 2 (binomial R.ops 2 w) a r ≡ embed R.ops 2 R.one
  quadratic_found a r a0 a1 n m ea en e er =
      (λ i. quotient_mul R.ops 2 (binomial R.ops 2 w) (ea i) (er i)) ∙ rest_gives_norm m a0 a1
      ∙ ap (λ z. z ∷ R.zero ∷ []) (ap (λ z. R.mul z m) (sym en) ∙ e)

  -- a value whose norm has no inverse has none
  pub quadratic_absent : (a : List A) (a0 a1 n : A) → a ≡ a0 ∷ a1 ∷ [] → n ≡ quadratic_norm R.ops w a0 a1 → ((m : A) → R.mul n m ≢ R.one)
      → HasNoInverse R.ops 2 (binomial R.ops 2 w) a
  quadratic_absent a a0 a1 n ea en none y ly e =
      let b = at R.ops y in
      let eb : y ≡ b 0 ∷ b 1 ∷ [] = to-tabulate R.zero 2 b y ly (λ k lt. refl) in
      none (quadratic_norm R.ops w (b 0) (b 1))
      (ap (λ z. R.mul z (quadratic_norm R.ops w (b 0) (b 1))) en ∙ ap (λ l. get_or l 0 R.zero) (norms_of a0 a1 (b 0) (b 1))
      ∙ ap (λ c. quadratic_norm R.ops w (get_or c 0 R.zero) (get_or c 1 R.zero))
      (sym (λ i. quotient_mul R.ops 2 (binomial R.ops 2 w) (ea i) (eb i)) ∙ e)
      ∙ ap (λ l. get_or l 0 R.zero) norm_of_one)

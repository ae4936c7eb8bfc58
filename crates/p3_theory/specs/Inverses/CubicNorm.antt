-- The norm modulo X^3 = w, and which values have an inverse.
use Rattle.std.proofs.Common.{◌≡◌, List, [], ◌∷◌, refl, ap, ◌∙◌, get_or}
use Rattle.p3_theory.specs.Rings.Ring.{Ops, Ring, subtract}
use Rattle.p3_theory.specs.Polynomials.Polynomial.{quotient_mul, binomial, embed}
use Rattle.p3_theory.specs.RingSolver.Solver.{Expr, V, free}
use Rattle.p3_theory.specs.RingSolver.Formula.{by_ring}
use Rattle.p3_theory.specs.RingSolver.Reify.{by_laws, reads, yes}

module _ {A : Type 0} (O : Ops A) where
  -- a0^3 + w * a1^3 + w^2 * a2^3 - 3 * w * a0 * a1 * a2
  abbrev pub cubic_norm : A → A → A → A → A
  cubic_norm w a0 a1 a2 =
      subtract O
      (O.add (O.add (O.mul (O.mul a0 a0) a0) (O.mul (O.mul w a1) (O.mul a1 a1))) (O.mul (O.mul (O.mul w a2) (O.mul w a2)) a2))
      (O.mul (O.mul (O.add O.one (O.add O.one O.one)) (O.mul w a2)) (O.mul a0 a1))

  -- the product of the two conjugates times m
  abbrev pub cubic_rest : A → A → A → A → A → List A
  cubic_rest w m a0 a1 a2 =
      O.mul m (subtract O (O.mul a0 a0) (O.mul a1 (O.mul w a2)))
      ∷ O.mul m (subtract O (O.mul (O.mul w a2) a2) (O.mul a0 a1))
      ∷ O.mul m (subtract O (O.mul a1 a1) (O.mul a0 a2))
      ∷ []

module _ {A : Type 0} (R : Ring A) (w : A) where
  rest_gives_norm : (m a0 a1 a2 : A) → quotient_mul R.ops 3 (binomial R.ops 3 w) (a0 ∷ a1 ∷ a2 ∷ []) (cubic_rest R.ops w m a0 a1 a2)
      ≡ R.mul (cubic_norm R.ops w a0 a1 a2) m ∷ R.zero ∷ R.zero ∷ []
  rest_gives_norm m a0 a1 a2 =
      by_ring R (w ∷ m ∷ a0 ∷ a1 ∷ a2 ∷ []) (quotient_mul free 3 (binomial free 3 (V 0)) (V 2 ∷ V 3 ∷ V 4 ∷ []) (cubic_rest free (V 0) (V 1) (V 2) (V 3) (V 4)))
      (free.mul (cubic_norm free (V 0) (V 2) (V 3) (V 4)) (V 1) ∷ free.zero ∷ free.zero ∷ []) refl

  -- divided by the norm it is an inverse
  pub cubic_found : (m a0 a1 a2 : A) → R.mul (cubic_norm R.ops w a0 a1 a2) m ≡ R.one
      → quotient_mul R.ops 3 (binomial R.ops 3 w) (a0 ∷ a1 ∷ a2 ∷ []) (cubic_rest R.ops w m a0 a1 a2) ≡ embed R.ops 3 R.one
  cubic_found m a0 a1 a2 e = rest_gives_norm m a0 a1 a2 ∙ ap (λ z. z ∷ R.zero ∷ R.zero ∷ []) e

  norms_of : (a0 a1 a2 b0 b1 b2 : A) → (let c : List A = quotient_mul R.ops 3 (binomial R.ops 3 w) (a0 ∷ a1 ∷ a2 ∷ []) (b0 ∷ b1 ∷ b2 ∷ []) in
      R.mul (cubic_norm R.ops w a0 a1 a2) (cubic_norm R.ops w b0 b1 b2) ∷ [] ≡ cubic_norm R.ops w (get_or c 0 R.zero) (get_or c 1 R.zero) (get_or c 2 R.zero) ∷ [])
  norms_of a0 a1 a2 b0 b1 b2 =
      let c : List Expr = quotient_mul free 3 (binomial free 3 (V 6)) (V 0 ∷ V 1 ∷ V 2 ∷ []) (V 3 ∷ V 4 ∷ V 5 ∷ []) in
      by_ring R (a0 ∷ a1 ∷ a2 ∷ b0 ∷ b1 ∷ b2 ∷ w ∷ []) (free.mul (cubic_norm free (V 6) (V 0) (V 1) (V 2)) (cubic_norm free (V 6) (V 3) (V 4) (V 5)) ∷ [])
      (cubic_norm free (V 6) (get_or c 0 free.zero) (get_or c 1 free.zero) (get_or c 2 free.zero) ∷ []) refl

  norm_of_one : cubic_norm R.ops w R.one R.zero R.zero ≡ R.one
  norm_of_one = by_laws R.ops R.laws (w ∷ []) (search reads depth 99 fits 99999) (search reads depth 99 fits 99999) yes

  -- the norm of what has an inverse has one
  pub cubic_exact : (a0 a1 a2 b0 b1 b2 : A) → quotient_mul R.ops 3 (binomial R.ops 3 w) (a0 ∷ a1 ∷ a2 ∷ []) (b0 ∷ b1 ∷ b2 ∷ []) ≡ embed R.ops 3 R.one
      → R.mul (cubic_norm R.ops w a0 a1 a2) (cubic_norm R.ops w b0 b1 b2) ≡ R.one
  cubic_exact a0 a1 a2 b0 b1 b2 e =
      ap (λ l. get_or l 0 R.zero) (norms_of a0 a1 a2 b0 b1 b2)
      ∙ ap (λ c. cubic_norm R.ops w (get_or c 0 R.zero) (get_or c 1 R.zero) (get_or c 2 R.zero)) e ∙ norm_of_one

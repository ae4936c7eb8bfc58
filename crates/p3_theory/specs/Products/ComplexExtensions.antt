-- Pairs of coefficients as complex values, and minus one as a root of unity of order two.
use Rattle.std.proofs.Common.{◌≡◌, ◌≤◌, ◌<◌, ℕ, zero, suc, List, [], ◌∷◌, get_or, refl, ap, ap₂, sym, ◌∙◌, arith}
use Rattle.p3_theory.specs.Rings.Ring.{Ops, Ring, Hom, Invertible, subtract}
use Rattle.p3_theory.specs.Polynomials.Polynomial.{at, quotient_mul, binomial}
use Rattle.p3_theory.specs.Rings.Powers.{power}
use Rattle.p3_theory.specs.Rings.Multiples.{two}
use Rattle.p3_theory.specs.RingSolver.Solver.{V, free}
use Rattle.p3_theory.specs.RingSolver.Formula.{by_ring}

module _ {A : Type 0} (O : Ops A) where
  -- the coefficient at X^0, and the one at X^1
  abbrev pub real_part : List A → A
  real_part v = at O v 0

  -- the coefficient at X
  abbrev pub imaginary_part : List A → A
  imaginary_part v = at O v 1

  -- the imaginary part negated
  abbrev pub conjugated : List A → List A
  conjugated v = real_part v ∷ O.neg (imaginary_part v) ∷ []

  -- the sum of the squares of both parts
  abbrev pub complex_norm : List A → A
  complex_norm v = O.add (O.mul (real_part v) (real_part v)) (O.mul (imaginary_part v) (imaginary_part v))

-- where two has an inverse, it has one wherever the operations are kept
pub half-along : {A B : Type 0} {O : Ops A} {P : Ops B} {h : A → B} → Hom O P h → Invertible O (two O) → Invertible P (two P)
half-along {O = O} {P = P} {h = h} H (y, e) =
    let two_is : h (two O) ≡ two P = H.add O.one O.one ∙ ap₂ P.add H.one H.one in
    (h y, ap (λ t. P.mul t (h y)) (sym two_is) ∙ sym (H.mul (two O) y) ∙ ap h e ∙ H.one)

-- x over an algebra times r over its ring, where the square of X is minus one
abbrev pub rotated : {A B : Type 0} → Ops A → Ops B → (A → B) → List A → List B → List B
rotated O P e r x =
    subtract P (P.mul (real_part P x) (e (real_part O r))) (P.mul (imaginary_part P x) (e (imaginary_part O r)))
    ∷ P.add (P.mul (imaginary_part P x) (e (real_part O r))) (P.mul (real_part P x) (e (imaginary_part O r))) ∷ []

module _ {A : Type 0} (R : Ring A) where
  -- minus one
  abbrev m : A
  m = R.neg R.one

  abbrev only : List A → A
  only l = get_or l 0 R.zero

  pub minus_one_square : power R.ops m 2 ≡ R.one
  minus_one_square = ap only (by_ring R [] (power free (free.neg free.one) 2 ∷ []) (free.one ∷ []) refl)

  difference : (h : A) → R.mul (subtract R.ops (power R.ops m 1) R.one) (R.neg h) ≡ R.mul (two R.ops) h
  difference h = ap only (by_ring R (h ∷ []) (free.mul (subtract free (power free (free.neg free.one) 1) free.one) (free.neg (V 0)) ∷ [])
      (free.mul (two free) (V 0) ∷ []) refl)

  -- minus one less one has an inverse where two has one
  pub minus_one_apart : Invertible R.ops (two R.ops) → (k : ℕ) → 1 ≤ k → k < 2 → Invertible R.ops (subtract R.ops (power R.ops m k) R.one)
  minus_one_apart t zero a b = absurd (omega (arith, a))
  minus_one_apart t (suc zero) a b = (R.neg t.0, difference t.0 ∙ t.1)
  minus_one_apart t (suc (suc k)) a b = absurd (omega (arith, b))

  -- a value rotated by one of its own ring is the product modulo X^2 + 1
  pub rotation_is_product : (r0 r1 x0 x1 : A) → rotated R.ops R.ops (λ a. a) (r0 ∷ r1 ∷ []) (x0 ∷ x1 ∷ [])
      ≡ quotient_mul R.ops 2 (binomial R.ops 2 m) (r0 ∷ r1 ∷ []) (x0 ∷ x1 ∷ [])
  rotation_is_product r0 r1 x0 x1 =
      by_ring R (r0 ∷ r1 ∷ x0 ∷ x1 ∷ []) (rotated free free (λ a. a) (V 0 ∷ V 1 ∷ []) (V 2 ∷ V 3 ∷ []))
      (quotient_mul free 2 (binomial free 2 (free.neg free.one)) (V 0 ∷ V 1 ∷ []) (V 2 ∷ V 3 ∷ [])) refl

  -- the norm is the value times its conjugate modulo X^2 + 1
  pub norm_is_product : (a0 a1 : A) → quotient_mul R.ops 2 (binomial R.ops 2 m) (a0 ∷ a1 ∷ []) (conjugated R.ops (a0 ∷ a1 ∷ []))
      ≡ complex_norm R.ops (a0 ∷ a1 ∷ []) ∷ R.zero ∷ []
  norm_is_product a0 a1 =
      by_ring R (a0 ∷ a1 ∷ []) (quotient_mul free 2 (binomial free 2 (free.neg free.one)) (V 0 ∷ V 1 ∷ []) (conjugated free (V 0 ∷ V 1 ∷ [])))
      (complex_norm free (V 0 ∷ V 1 ∷ []) ∷ free.zero ∷ []) refl

-- The Frobenius map modulo X^D - w: X becomes c * X, for a root of unity c of order D.
use Rattle.std.specs.Prelude.{◌≡◌, ◌<◌, ◌≤◌, ℕ, List, length}
use Rattle.std.proofs.Common.{arith, ◌∙◌, sym, zero, suc, subst}
use Rattle.p3_theory.specs.Rings.Ring.{Ops, Ring, Invertible}
use Rattle.p3_theory.specs.Polynomials.Polynomial as P
use Rattle.p3_theory.specs.Rings.Powers.{power, scale_powers}
use Rattle.p3_theory.specs.FrobeniusMaps.FrobeniusTable.{frobenius_list, IsFrobeniusTable, unknown}
use Rattle.p3_theory.specs.FrobeniusMaps.FrobeniusNorm as T
use Rattle.p3_theory.specs.FrobeniusMaps.Frobenius.{iterate}
use Rattle.p3_theory.specs.FrobeniusMaps.ScaledPowers.{scale-power, length-scale_powers, iterate-same}

-- c * X
abbrev pub binomial_image : {A : Type 0} → Ops A → ℕ → A → A → List A
binomial_image o D w c = P.quotient_mul o D (P.binomial o D w) (P.embed o D c) (unknown o D (P.binomial o D w))

module _ {A : Type 0} (R : Ring A) where
  has : (D : ℕ) → 2 ≤ D → (w c : A) → power R.ops c D ≡ R.one → ((k : ℕ) → 1 ≤ k → k < D → Invertible R.ops (R.add (power R.ops c k) (R.neg R.one)))
      → IsFrobeniusTable R.ops D (P.binomial R.ops D w) (binomial_image R.ops D w c)
  has zero h w c root apart = absurd (omega arith)
  has (suc d) h w c root apart = T.turned_laws R d w c root apart

  pub binomial_frobenius : (D : ℕ) → 2 ≤ D → (f : List A) (w c : A) → f ≡ P.binomial R.ops D w → power R.ops c D ≡ R.one
      → ((k : ℕ) → 1 ≤ k → k < D → Invertible R.ops (R.add (power R.ops c k) (R.neg R.one)))
      → IsFrobeniusTable R.ops D f (binomial_image R.ops D w c)
  binomial_frobenius D h f w c e root apart = subst (λ g. IsFrobeniusTable R.ops D g (binomial_image R.ops D w c)) (sym e) (has D h w c root apart)

  scaled_coefficients : (D : ℕ) → 2 ≤ D → (w c : A) → power R.ops c D ≡ R.one → (a : List A) → length a ≡ D
      → scale_powers R.ops D c a ≡ frobenius_list R.ops D (P.binomial R.ops D w) (binomial_image R.ops D w c) a
  scaled_coefficients zero h w c root a l = absurd (omega arith)
  scaled_coefficients (suc d) h w c root a l = sym (T.turned_coefficients R d w c root (a, l))

  -- one factor for each index is the Frobenius map's sum
  pub scaled_is_frobenius : (D : ℕ) → 2 ≤ D → (f : List A) (w c : A) → f ≡ P.binomial R.ops D w → power R.ops c D ≡ R.one → (a : List A) → length a ≡ D
      → scale_powers R.ops D c a ≡ frobenius_list R.ops D f (binomial_image R.ops D w c) a
  scaled_is_frobenius D h f w c e root a l =
      let P' : List A → Type 0 = λ g. scale_powers R.ops D c a ≡ frobenius_list R.ops D g (binomial_image R.ops D w c) a in
      subst P' (sym e) (scaled_coefficients D h w c root a l)

  -- one factor for each index too, where the map is taken n times
  pub scaled_is_repeated : (D : ℕ) → 2 ≤ D → (f : List A) (w c : A) → f ≡ P.binomial R.ops D w → power R.ops c D ≡ R.one → (n : ℕ) (a : List A) → length a ≡ D
      → scale_powers R.ops D (power R.ops c n) a ≡ iterate (frobenius_list R.ops D f (binomial_image R.ops D w c)) n a
  scaled_is_repeated D h f w c e root n a l =
      scale-power R D c n a l
      ∙ iterate-same (λ b. length b ≡ D) (scale_powers R.ops D c) (frobenius_list R.ops D f (binomial_image R.ops D w c)) (λ b k. length-scale_powers R D c b)
      (scaled_is_frobenius D h f w c e root) n a l

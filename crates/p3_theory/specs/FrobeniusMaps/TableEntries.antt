-- Frobenius tables of residues: from numbers to the values of a type that stores them in any form.
use Rattle.std.proofs.Common.{◌≡◌, ◌<◌, ◌+◌, ℕ, zero, suc, pred, List, [], ◌∷◌, map, get_or, refl, sym, ap, subst, arith, ◌∙◌}
use Rattle.std.specs.Prelude.{ℤ}
use Rattle.p3_theory.specs.Rings.Ring.{Ops, Hom, ring_of}
use Rattle.p3_theory.specs.Polynomials.Polynomial.{at, quotient_ops, binomial}
use Rattle.p3_theory.specs.Polynomials.IntegerPolynomials.{over, over-along, over_is_monic, IsMonicOfDegree}
use Rattle.p3_theory.specs.Rings.Powers.{power}
use Rattle.p3_theory.specs.ResidueRings.Residues.{residues, IsResidues, residue_ops, residue_laws, of_keeps}
use Rattle.p3_theory.specs.Rings.Homomorphism.{map-power, at-map, quotient-map, monomial-map}
use Rattle.p3_theory.specs.FrobeniusMaps.Frobenius.{iterate}
use Rattle.p3_theory.specs.FrobeniusMaps.FrobeniusTable.{TableProof, IsFrobeniusTable, orbit_list}
use Rattle.p3_theory.specs.FrobeniusMaps.FrobeniusTransfer.{laws_along}
use Rattle.p3_theory.specs.FrobeniusMaps.Iteration.{iterate_out}

-- X^D - w along a map of rings
module _ {A B : Type 0} {O : Ops A} {P : Ops B} {h : A → B} (H : Hom O P h) where
  pub binomial-along : (D : ℕ) (w : A) → map h (binomial O D w) ≡ binomial P D (h w)
  binomial-along D w i = H.neg w i ∷ monomial-map O P h H (pred D) i

orbit-entry : {B : Type 0} (s : List B → List B) (n j : ℕ) (v : List B) → j < n → get_or (orbit_list s n v) j [] ≡ iterate s j v
orbit-entry s zero j v below = absurd (omega (arith, below))
orbit-entry s (suc n) zero v below = refl
orbit-entry s (suc n) (suc j) v below = orbit-entry s n j (s v) (omega (arith, below))

iterate-power : {B : Type 0} (O : Ops B) (x : B) (j : ℕ) → iterate (O.mul x) j O.one ≡ power O x j
iterate-power O x zero = refl
iterate-power O x (suc j) =
    let e : suc j ≡ j + 1 = omega arith in
    ap (λ k. iterate (O.mul x) k O.one) e ∙ sym (iterate_out (O.mul x) j O.one) ∙ ap (O.mul x) (iterate-power O x j)

module _ {A : Type 0} {n : ℕ} {canon : A → ℕ} {of : ℕ → A} (is : IsResidues n canon of) where
  abbrev O : Ops A
  O = residue_ops n canon of

  -- a table proved on numbers has the laws of a Frobenius map
  pub table_laws_of : (D : ℕ) (f : List ℤ) → IsMonicOfDegree D f → (phi : List ℕ) (table dual : List (List ℕ)) → TableProof (residues n) D (over (residues n) f) phi table dual
      → IsFrobeniusTable O D (over O f) (map of phi)
  table_laws_of zero f m phi table dual T = absurd (omega (arith, m.at_least_two))
  table_laws_of (suc d) f m phi table dual T =
      let P : List A → Type 0 = λ l. IsFrobeniusTable O (suc d) l (map of phi) in
      subst P (over-along (of_keeps is) f)
      (laws_along (residues n) (ring_of (residue_laws is)) of (of_keeps is) d (over (residues n) f) phi table dual (over_is_monic (residues n) m) T)

  -- its rows are the powers of phi, and their residues those of its residues
  pub power-entry : (D : ℕ) (f : List ℤ) (phi : List ℕ) (table dual : List (List ℕ)) → TableProof (residues n) D (over (residues n) f) phi table dual → (j k : ℕ) → j < D
      → of (get_or (get_or table j []) k 0) ≡ at O (power (quotient_ops O D (over O f)) (map of phi) j) k
  power-entry D f phi table dual T j k below =
      let N : Ops (List ℕ) = quotient_ops (residues n) D (over (residues n) f) in
      let H = quotient-map (residues n) O of (of_keeps is) D (over (residues n) f) in
      ap (λ l. of (get_or l k 0)) (ap (λ t. get_or t j []) (sym T.rows) ∙ orbit-entry (N.mul phi) D j N.one below ∙ iterate-power N phi j)
      ∙ sym (ap (λ s. s k) (at-map (residues n) O of (of_keeps is) (power N phi j)))
      ∙ ap (λ l. at O l k) (map-power H phi j)
      ∙ ap (λ l. at O (power (quotient_ops O D l) (map of phi) j) k) (over-along (of_keeps is) f)

-- Values of a field by its numbers: sums, negations, products and powers of values are values, and a value has one inverse at most.
use Rattle.std.proofs.Common.{◌≡◌, ◌∙◌, ◌<◌, ◌≤◌, ℕ, ◌%◌, zero, suc, Bool, true, ◌&&◌, eqb, ltb, List, [], ◌∷◌, length, map, get_or, refl, sym, ap, ap₂, subst, arith}
use mathlib.Core.HLevel.{Σ_prop_path}
use Rattle.std.proofs.Math.Nat.{mod-lt, mod-eq_of_lt}
use Rattle.std.proofs.Math.Bridge.{le_prop}
use Rattle.std.proofs.lemmas.Bool.{eqb-true, ltb-true}
use Rattle.p3_theory.specs.RingSolver.SolverSound.{and_true}
use Rattle.p3_theory.specs.Rings.Ring.{Ops, RingLaws, ring_of}
use Rattle.p3_theory.specs.Rings.Basics.{inverse_unique, mul-zero}
use Rattle.p3_theory.specs.Rings.Powers.{power}
use Rattle.p3_theory.specs.Rings.Homomorphism.{length-map, at-map}
use Rattle.p3_theory.specs.ResidueRings.Residues.{residues, residue_ops, residue_laws, are_residues, IsResidues}
use Rattle.p3_theory.specs.Polynomials.Polynomial.{at, IsMonic}
use Rattle.p3_extension.specs.Values.{ext_ops, ext_laws}
use Rattle.p3_calculator.specs.Fields.{FieldSpec, ResiduesModulo, PolynomialsModulo, IsValue, AllBelow, ops}
use Rattle.p3_calculator.specs.Representation.{Represents}
use Rattle.p3_calculator.specs.Coefficients.{residues_represented, extension_represented, one_coefficient, all_coefficients}
use Rattle.p3_calculator.specs.RegisterValues.{HasValues}

-- a field has them where a ring's values stand for its coefficient lists
represented : {A : Type 0} (s : FieldSpec) (O : Ops A) (c : A → List ℕ) → Represents s O c → RingLaws O → HasValues s
represented s O c R L = record {
  above_one = R.above_one;
  zero_is = subst (IsValue s) R.keeps.zero (R.valid O.zero);
  zero_square = sym (ap₂ (ops s).mul R.keeps.zero R.keeps.zero) ∙ sym (R.keeps.mul O.zero O.zero) ∙ ap c (mul-zero (ring_of L) O.zero) ∙ R.keeps.zero;
  one_is = subst (IsValue s) R.keeps.one (R.valid O.one);
  sum = λ x y v w. let a = R.every x v in let b = R.every y w in subst (IsValue s) (R.keeps.add a.0 b.0 ∙ ap₂ (ops s).add a.1 b.1) (R.valid (O.add a.0 b.0));
  negation = λ x v. let a = R.every x v in subst (IsValue s) (R.keeps.neg a.0 ∙ ap (ops s).neg a.1) (R.valid (O.neg a.0));
  product = λ x y v w. let a = R.every x v in let b = R.every y w in subst (IsValue s) (R.keeps.mul a.0 b.0 ∙ ap₂ (ops s).mul a.1 b.1) (R.valid (O.mul a.0 b.0));
  one_inverse = λ x y z v i j.
      let a = R.every x v in
      let b = R.every y i.0 in
      let d = R.every z j.0 in
      let p : O.mul a.0 b.0 ≡ O.one = R.same _ _ (R.keeps.mul a.0 b.0 ∙ ap₂ (ops s).mul a.1 b.1 ∙ i.1 ∙ sym R.keeps.one) in
      let q : O.mul a.0 d.0 ≡ O.one = R.same _ _ (R.keeps.mul a.0 d.0 ∙ ap₂ (ops s).mul a.1 d.1 ∙ j.1 ∙ sym R.keeps.one) in
      sym b.1 ∙ ap c (inverse_unique (ring_of L) a.0 b.0 d.0 p q) ∙ d.1;
}

module _ (n : ℕ) (h : 1 < n) where
  -- the numbers below n
  abbrev Below : Type 0
  Below = (c : ℕ) × (c < n)

  abbrev canon : Below → ℕ
  canon x = x.0

  abbrev remainder_of : ℕ → Below
  remainder_of m = (m % n, mod-lt m (omega (arith, h)))

  are : IsResidues n canon remainder_of
  are = record {
    above_one = h;
    canon_of = λ m. refl;
    of_canon = λ x. Σ_prop_path (λ c. le_prop) (mod-eq_of_lt x.1);
  }

  abbrev O : Ops Below
  O = residue_ops n canon remainder_of

  by_residues : (g : ℕ) → HasValues (ResiduesModulo n g)
  by_residues g = represented (ResiduesModulo n g) O (one_coefficient canon) (residues_represented n O canon (are_residues are) g) (residue_laws are)

  abbrev residues_of : List ℕ → List Below
  residues_of cs = map remainder_of cs

  same_numbers : (cs : List ℕ) → AllBelow n cs → map canon (residues_of cs) ≡ cs
  same_numbers [] b = refl
  same_numbers (c ∷ cs) b = ap₂ (λ x xs. x ∷ xs) (mod-eq_of_lt b.0) (same_numbers cs b.1)

  by_polynomials : (D : ℕ) (f g : List ℕ) → 2 ≤ D → AllBelow n f → length f ≡ suc D → get_or f D 0 ≡ 1 → HasValues (PolynomialsModulo n D f g)
  by_polynomials D f g two below degree leading =
      let fs = residues_of f in
      let same = same_numbers f below in
      let R = are_residues are in
      let top : canon (at O fs D) ≡ 1 = sym (ap (λ (w : ℕ → ℕ). w D) (at-map O (residues n) canon R.keeps fs)) ∙ ap (λ (l : List ℕ). get_or l D 0) same ∙ leading in
      let monic : IsMonic O D fs = record { degree = length-map remainder_of f ∙ degree; leading = R.same _ _ (top ∙ sym R.keeps.one) } in
      subst (λ (l : List ℕ). HasValues (PolynomialsModulo n D l g)) same
      (represented (PolynomialsModulo n D (map canon fs) g) (ext_ops {F = Unit {0}} {D = D} {S = Unit {0}} O fs) (all_coefficients canon)
      (extension_represented n O canon R D fs g) (ext_laws (ring_of (residue_laws are)) D two fs monic))

abbrev all_below : ℕ → List ℕ → Bool
all_below n [] = true
all_below n (c ∷ cs) = ltb c n && all_below n cs

AllBelow_of : (n : ℕ) (cs : List ℕ) → all_below n cs ≡ true → AllBelow n cs
AllBelow_of n [] h = tt
AllBelow_of n (c ∷ cs) h = let w = and_true _ _ h in (ltb-true c n w.0, AllBelow_of n cs w.1)

-- the test of a field's numbers: the order is above one, the degree too, and the polynomial is monic
abbrev pub is_sound : FieldSpec → Bool
is_sound (ResiduesModulo n g) = ltb 1 n
is_sound (PolynomialsModulo n D f g) = ltb 1 n && (ltb 1 D && (all_below n f && (eqb (length f) (suc D) && eqb (get_or f D 0) 1)))

pub has_values : (s : FieldSpec) → is_sound s ≡ true → HasValues s
has_values (ResiduesModulo n g) h = by_residues n (ltb-true 1 n h) g
has_values (PolynomialsModulo n D f g) h =
    let a = and_true _ _ h in
    let b = and_true _ _ a.1 in
    let c = and_true _ _ b.1 in
    let d = and_true _ _ c.1 in
    by_polynomials n (ltb-true 1 n a.0) D f g (ltb-true 1 D b.0) (AllBelow_of n f c.0) (eqb-true _ _ d.0) (eqb-true _ _ d.1)

pub power_is : (s : FieldSpec) → HasValues s → (x : List ℕ) (n : ℕ) → IsValue s x → IsValue s (power (ops s) x n)
power_is s h x zero v = h.one_is
power_is s h x (suc n) v = h.product x (power (ops s) x n) v (power_is s h x n v)

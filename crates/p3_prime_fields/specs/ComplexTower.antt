-- Two-adic generators of the extension of degree 2 over complex values modulo 31, by Y^2 = 3 + 2 X: from numbers to residues in any form.
use Rattle.std.specs.Prelude.{◌≡◌, ℕ, List, [], ◌∷◌, map, get_or, refl}
use Rattle.std.proofs.Common.{ap, ap₂, ◌∙◌, subst, sym}
use Rattle.p3_theory.specs.Rings.Ring.{Ops, Hom, Ring}
use Rattle.p3_theory.specs.Polynomials.Polynomial.{binomial, quotient_ops}
use Rattle.p3_theory.specs.Rings.Basics.{neg-zero}
use Rattle.p3_theory.specs.ResidueRings.Residues.{residues, IsResidues, residue_ops, of_keeps}
use Rattle.p3_theory.specs.Rings.Homomorphism.{quotient-map}
use Rattle.p3_theory.specs.FrobeniusMaps.TableEntries.{binomial-along}
use Rattle.p3_theory.specs.Roots.TwoAdicCoefficients.{AreExtensionGenerators, GeneratorEquations, equations_generate, coefficients-along}
use Rattle.p3_extension.specs.ComplexValues.{complex_ops}
use Rattle.p3_extension.specs.Values.{same_value}
use Rattle.p3_extension.specs.declared.extension.ext_field.ExtField.{ExtField}
use Rattle.p3_extension.specs.ExtensionGenerators.{generators_over_values}
use Rattle.p3_prime_fields.specs.ComplexNumbers.{complex_of}

-- the coefficients of the generators, a row for each number of bits
abbrev pub tower_table : List (List (List ℕ))
tower_table =
    ((1 ∷ 0 ∷ []) ∷ (0 ∷ 0 ∷ []) ∷ [])
    ∷ ((30 ∷ 0 ∷ []) ∷ (0 ∷ 0 ∷ []) ∷ [])
    ∷ ((0 ∷ 1 ∷ []) ∷ (0 ∷ 0 ∷ []) ∷ [])
    ∷ ((4 ∷ 4 ∷ []) ∷ (0 ∷ 0 ∷ []) ∷ [])
    ∷ ((7 ∷ 18 ∷ []) ∷ (0 ∷ 0 ∷ []) ∷ [])
    ∷ ((29 ∷ 11 ∷ []) ∷ (0 ∷ 0 ∷ []) ∷ [])
    ∷ ((18 ∷ 27 ∷ []) ∷ (0 ∷ 0 ∷ []) ∷ [])
    ∷ ((0 ∷ 0 ∷ []) ∷ (15 ∷ 18 ∷ []) ∷ [])
    ∷ []

-- the two numbers at Y^i in the row for so many bits
abbrev pub tower_entry : ℕ → ℕ → List ℕ
tower_entry bits i = get_or (get_or tower_table bits []) i []

-- 3 + 2 X
abbrev pub tower_w : List ℕ
tower_w = 3 ∷ 2 ∷ []

-- the operations of pairs of coefficients, where the square of X is minus one
abbrev pairs : {A : Type 0} → Ops A → Ops (List A)
pairs o = quotient_ops o 2 (binomial o 2 (o.neg o.one))

-- both numbers of an entry, and 0 past the table's end
abbrev both : List ℕ → List ℕ
both l = get_or l 0 0 ∷ get_or l 1 0 ∷ []

-- minus one and zero are the coefficients of minus one
pub is_minus_one : {A F S : Type 0} (R : Ring A) (x : ExtField F 2 S A) (a b : A) → x.value ≡ a ∷ b ∷ [] → a ≡ R.neg R.one → b ≡ R.zero
    → (let p = complex_ops {F = F} {S = S} R.ops in x ≡ p.neg p.one)
is_minus_one R x a b e p q =
    let o = complex_ops R.ops in
    same_value x (o.neg o.one) (e ∙ ap₂ (λ u v. u ∷ v ∷ []) p (q ∙ sym (neg-zero R)))

tower_equations : GeneratorEquations (pairs (residues 31)) 2 (binomial (pairs (residues 31)) 2 tower_w) 7 (λ bits i. both (tower_entry bits i))
tower_equations = record { trivial = refl; squares = refl; minus_one = λ _. refl }

module _ {A : Type 0} {canon : A → ℕ} {of : ℕ → A} (is : IsResidues 31 canon of) where
  abbrev o : Ops A
  o = residue_ops 31 canon of

  abbrev m : List ℕ
  m = binomial (residues 31) 2 ((residues 31).neg 1)

  pairs_keep : Hom (pairs (residues 31)) (pairs o) (map of)
  pairs_keep =
      let h = of_keeps is in
      let e : map of m ≡ binomial o 2 (o.neg o.one) = binomial-along h 2 ((residues 31).neg 1) ∙ ap (binomial o 2) (h.neg 1 ∙ ap o.neg h.one) in
      let K : List A → Type 0 = λ f. Hom (pairs (residues 31)) (quotient_ops o 2 f) (map of) in
      subst K e (quotient-map (residues 31) o of h 2 m)

  pub tower_generators : {F S : Type 0} → (let p = complex_ops {F = F} {S = S} o in
      AreExtensionGenerators p 2 (binomial p 2 (complex_of of tower_w)) 7 (λ bits i. complex_of of (tower_entry bits i)))
  tower_generators {F = F} {S = S} =
      let f = binomial (pairs (residues 31)) 2 tower_w in
      let c : ℕ → ℕ → List ℕ = λ bits i. both (tower_entry bits i) in
      generators_over_values o (binomial o 2 (o.neg o.one)) 2 (complex_of of tower_w) 7 (λ bits i. complex_of of (tower_entry bits i))
      (coefficients-along pairs_keep 2 f (binomial (pairs o) 2 (map of tower_w)) (binomial-along pairs_keep 2 tower_w) 7 c
      (equations_generate (pairs (residues 31)) 2 f 7 c tower_equations))

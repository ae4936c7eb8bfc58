-- Values by their canonical coefficients: the coefficient lists represent them, and their text is that of the lists.
use Rattle.std.specs.Prelude.{◌≡◌, ℕ, List, [], ◌∷◌, ◌++◌, length, map, refl, get_or, codes, decimal}
use Rattle.std.proofs.Common.{ap, ap₂, arith, ◌∙◌, sym, append-nil, cond, inl, inr, drop}
use Rattle.std.proofs.lemmas.Bool.{cases_eq, ne_eqb}
use Rattle.std.proofs.lemmas.Fmt.{decimal_digit}
use Rattle.p3_theory.specs.Rings.Ring.{Ops}
use Rattle.p3_theory.specs.ResidueRings.Residues.{AreResidues, residues}
use Rattle.p3_theory.specs.Rings.Homomorphism.{length-map, quotient-map}
use Rattle.p3_extension.specs.declared.extension.ext_field.ExtField.{ExtField}
use Rattle.p3_extension.specs.Values.{value_of, same_value, ext_ops}
use Rattle.p3_calculator.specs.Display.{display}
use Rattle.p3_calculator.specs.Fields.{ResiduesModulo, PolynomialsModulo, IsValue, AllBelow}
use Rattle.p3_calculator.specs.Representation.{Represents}

-- the one coefficient of a residue
abbrev pub one_coefficient : {A : Type 0} → (A → ℕ) → A → List ℕ
one_coefficient canon x = canon x ∷ []

-- the coefficients of a value of an extension
abbrev pub all_coefficients : {F : Type 0} {D : ℕ} {S A : Type 0} → (A → ℕ) → ExtField F D S A → List ℕ
all_coefficients canon x = map canon x.value

abbrev first : List ℕ → ℕ
first cs = get_or cs 0 0

abbrev rest : List ℕ → List ℕ
rest cs = drop 1 cs

module _ {A : Type 0} (n : ℕ) (O : Ops A) (canon : A → ℕ) (R : AreResidues n O canon) where
  residue_of : (g : ℕ) (cs : List ℕ) → IsValue (ResiduesModulo n g) cs → (x : A) × (one_coefficient canon x ≡ cs)
  residue_of g [] v = absurd (omega (arith, v.0))
  residue_of g (c ∷ []) v = let e = R.every c v.1.0 in (e.0, ap (λ w. w ∷ []) e.1)
  residue_of g (c ∷ d ∷ cs) v = absurd (omega (arith, v.0))

  pub residues_represented : (g : ℕ) → Represents (ResiduesModulo n g) O (one_coefficient canon)
  residues_represented g = record {
    above_one = R.above_one;
    valid = λ x. (refl, (R.below x, tt));
    every = residue_of g;
    same = λ x y e. R.same x y (ap first e);
    keeps = record {
      zero = ap (λ w. w ∷ []) R.keeps.zero;
      one = ap (λ w. w ∷ []) R.keeps.one;
      add = λ x y. ap (λ w. w ∷ []) (R.keeps.add x y);
      neg = λ x. ap (λ w. w ∷ []) (R.keeps.neg x);
      mul = λ x y. ap (λ w. w ∷ []) (R.keeps.mul x y);
    };
  }

  all_below : (xs : List A) → AllBelow n (map canon xs)
  all_below [] = tt
  all_below (x ∷ xs) = (R.below x, all_below xs)

  residues_of : (cs : List ℕ) → AllBelow n cs → (xs : List A) × (map canon xs ≡ cs)
  residues_of [] b = ([], refl)
  residues_of (c ∷ cs) b = let e = R.every c b.0 in let es = residues_of cs b.1 in (e.0 ∷ es.0, ap₂ (λ w ws. w ∷ ws) e.1 es.1)

  same_residues : (xs ys : List A) → map canon xs ≡ map canon ys → xs ≡ ys
  same_residues [] [] e = refl
  same_residues [] (y ∷ ys) e = absurd (cc e)
  same_residues (x ∷ xs) [] e = absurd (cc e)
  same_residues (x ∷ xs) (y ∷ ys) e = ap₂ (λ w ws. w ∷ ws) (R.same x y (ap first e)) (same_residues xs ys (ap rest e))

  pub extension_represented : {F S : Type 0} (D : ℕ) (f : List A) (g : List ℕ)
      → Represents (PolynomialsModulo n D (map canon f) g) (ext_ops {F = F} {D = D} {S = S} O f) (all_coefficients canon)
  extension_represented D f g =
      let kept = quotient-map O (residues n) canon R.keeps D f in
      record {
        above_one = R.above_one;
        valid = λ x. (length-map canon x.value ∙ x.sized, all_below x.value);
        every = λ cs v. let e = residues_of cs v.1 in (value_of e.0 (sym (length-map canon e.0) ∙ ap length e.1 ∙ v.0), e.1);
        same = λ x y e. same_value x y (same_residues x.value y.value e);
        keeps = record {
          zero = kept.zero;
          one = kept.one;
          add = λ x y. kept.add x.value y.value;
          neg = λ x. kept.neg x.value;
          mul = λ x y. kept.mul x.value y.value;
        };
      }

-- the text of one coefficient is its decimal number
pub display-one : (c : ℕ) → display (c ∷ []) ≡ decimal c
display-one c = elim (cases_eq c 0) [
  | inl e ↦ ap (λ k. display (k ∷ [])) e ∙ sym (decimal_digit 0 (omega arith)) ∙ sym (ap decimal e)
  | inr nonzero ↦ ap (λ b. cond b (codes "0") (([] ++ decimal c) ++ [])) (ne_eqb c 0 nonzero) ∙ append-nil (decimal c)
]

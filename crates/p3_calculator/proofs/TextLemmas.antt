-- The text of coefficients is that of their canonical values.
use Rattle.std.proofs.Common.{◌≡◌, ◌∙◌, ◌==◌, ◌+◌, ◌++◌, ℕ, Bool, true, false, List, [], ◌∷◌, map, decimal, refl, sym, ap, ap₂, cond}
use Rattle.std.specs.Bool.{Decides}
use Rattle.std.proofs.lemmas.Bool.Decides.{Decides-eqb, same_from_decides}
use Rattle.p3_theory.specs.Rings.Ring.{Ops}
use Rattle.p3_theory.specs.ResidueRings.Residues.{AreResidues}
use Rattle.p3_theory.specs.Polynomials.Text.{terms_text, next_text, polynomial_text}
use Rattle.p3_calculator.specs.Display.{display}

module _ {A : Type 0} (canon : A → ℕ) (is_zero is_one : A → Bool) (own : A → List ℕ) (zeros : (x : A) → is_zero x ≡ (canon x == 0)) (ones : (x : A) → is_one x ≡ (canon x == 1)) (texts : (x : A) → own x ≡ decimal (canon x)) where
  terms-map : (b : Bool) (i : ℕ) (xs : List A) → terms_text is_zero is_one own b i xs ≡ terms_text (λ c. c == 0) (λ c. c == 1) decimal b i (map canon xs)
  terms-map b i [] = refl
  terms-map b i (x ∷ xs) =
      let more = terms_text (λ c. c == 0) (λ c. c == 1) decimal b (i + 1) (map canon xs) in
      let after = terms_text (λ c. c == 0) (λ c. c == 1) decimal true (i + 1) (map canon xs) in
      ap (λ (z : Bool). cond z (terms_text is_zero is_one own b (i + 1) xs) (next_text b i (is_one x) (own x) ++ terms_text is_zero is_one own true (i + 1) xs)) (zeros x)
      ∙ ap₂ (λ (s t : List ℕ). cond (canon x == 0) s (next_text b i (is_one x) (own x) ++ t)) (terms-map b (i + 1) xs) (terms-map true (i + 1) xs)
      ∙ ap₂ (λ (o : Bool) (w : List ℕ). cond (canon x == 0) more (next_text b i o w ++ after)) (ones x) (texts x)

-- a test for a value is one for its canonical value
module _ {A : Type 0} (n : ℕ) (O : Ops A) (canon : A → ℕ) (R : AreResidues n O canon) (eq : A → A → Bool) (equals : (x y : A) → Decides (eq x y) (x ≡ y)) where
  test : (x y : A) (c : ℕ) → canon y ≡ c → eq x y ≡ (canon x == c)
  test x y c e =
      let d = Decides-eqb (canon x) c in
      same_from_decides (eq x y) (canon x == c) (equals x y) ((λ h. R.same x y (d.0 h ∙ sym e)), (λ h. d.1 (ap canon h ∙ e)))

  pub extension_text : (own : A → List ℕ) → ((x : A) → own x ≡ decimal (canon x)) → (xs : List A)
      → polynomial_text (λ c. eq c O.zero) (λ c. eq c O.one) own xs ≡ display (map canon xs)
  extension_text own texts xs = terms-map canon _ _ own (λ x. test x O.zero 0 R.keeps.zero) (λ x. test x O.one 1 R.keeps.one) texts false 0 xs

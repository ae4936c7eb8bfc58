-- Complex values of residues, by the numbers of both coefficients.
use Rattle.std.specs.Prelude.{◌≡◌, ℕ, List, [], ◌∷◌, get_or, refl}
use Rattle.std.proofs.Common.{ap₂, ◌∙◌}
use Rattle.p3_extension.specs.declared.extension.ext_field.ExtField.{ExtField}
use Rattle.p3_extension.specs.Values.{value_of, same_value}

module _ {A F S : Type 0} (of : ℕ → A) where
  -- the complex value whose coefficients are the residues of two numbers
  abbrev pub complex_of : List ℕ → ExtField F 2 S A
  complex_of l = value_of (of (get_or l 0 0) ∷ of (get_or l 1 0) ∷ []) refl

  pub is_complex_of : (l : List ℕ) (x : ExtField F 2 S A) (a b : A) → x.value ≡ a ∷ b ∷ [] → a ≡ of (get_or l 0 0) → b ≡ of (get_or l 1 0) → x ≡ complex_of l
  is_complex_of l x a b e p q = same_value x (complex_of l) (e ∙ ap₂ (λ u v. u ∷ v ∷ []) p q)

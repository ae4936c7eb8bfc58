-- An inverse of a value, read by its coefficients.
use Rattle.std.proofs.Common.{◌≢◌, ◌∙◌, List, ℕ, sym, ap, Option, Some, None}
use Rattle.std.specs.Prelude.{MatchOption, IfSome, IfNone}
use Rattle.p3_theory.specs.Rings.Ring.{Ops, IsInverse as IsInverseIn}
use Rattle.p3_calculator.specs.Effects.{IsInverse}
use Rattle.p3_calculator.specs.Fields.{FieldSpec, ops}
use Rattle.p3_calculator.specs.Representation.{Represents}

module _ {A : Type 0} (s : FieldSpec) (O : Ops A) (c : A → List ℕ) (R : Represents s O c) where
  pub inverse_some : (x : A) (o : Option A) → MatchOption o ((y : A) → O.mul x y ≢ O.one) (λ y. IsInverseIn O x y) → IfSome o (λ y. IsInverse s (c x) (c y))
  inverse_some x None h = tt
  inverse_some x (Some y) h = (R.valid y, sym (R.keeps.mul x y) ∙ ap c h ∙ R.keeps.one)

  pub inverse_none : (x : A) (o : Option A) → MatchOption o ((y : A) → O.mul x y ≢ O.one) (λ y. IsInverseIn O x y) → IfNone o ((l : List ℕ) → IsInverse s (c x) l → ⊥)
  inverse_none x None h = λ l i. let e = R.every l i.0 in h e.0 (R.same _ _ (R.keeps.mul x e.0 ∙ ap ((ops s).mul (c x)) e.1 ∙ i.1 ∙ sym R.keeps.one))
  inverse_none x (Some y) h = tt

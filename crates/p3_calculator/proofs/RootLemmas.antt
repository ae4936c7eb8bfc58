-- A square root of a value, read by its coefficients.
use Rattle.std.proofs.Common.{◌≡◌, ◌≢◌, ◌-◌, ◌^◌, ◌∙◌, ℕ, List, sym, ap, ap₂, inl, inr, Option, Some, None}
use Rattle.std.specs.Prelude.{IfSome, IfNone}
use Rattle.p3_theory.specs.Rings.Ring.{Ops}
use Rattle.p3_theory.specs.Rings.Powers.{power}
use Rattle.p3_theory.specs.Rings.Homomorphism.{map-power}
use Rattle.p3_theory.specs.Roots.SquareRoots.{FiniteFieldPremise}
use Rattle.p3_calculator.specs.Effects.{IsRoot}
use Rattle.p3_calculator.specs.Fields.{FieldSpec, ops, value_count, generator_of}
use Rattle.p3_calculator.specs.Premise.{MeetsPremise}
use Rattle.p3_calculator.specs.Representation.{Represents, RootOrNone}

module _ {A : Type 0} (f : FieldSpec) (O : Ops A) (c : A → List ℕ) (R : Represents f O c) where
  pub root_some : (n : ℕ) (g x : A) (o : Option A) → RootOrNone O n g x o → IfSome o (λ y. IsRoot f (c x) (c y))
  root_some n g x None h = tt
  root_some n g x (Some y) h = (R.valid y, sym (R.keeps.mul y y) ∙ ap c h)

  -- the premise over coefficient lists is that over the values
  premise_of : (g : A) → c g ≡ generator_of f → (p : MeetsPremise f) → FiniteFieldPremise O (value_count f) p.s p.q (power O g p.q)
  premise_of g same p = record {
    domain = λ x y z. elim (p.domain (c x) (c y) (R.valid x) (R.valid y) (sym (R.keeps.mul x y) ∙ ap c z ∙ R.keeps.zero)) [
      | inl e ↦ inl (R.same x O.zero (e ∙ sym R.keeps.zero))
      | inr e ↦ inr (R.same y O.zero (e ∙ sym R.keeps.zero))
    ];
    split = p.split;
    odd = p.odd;
    half = λ above.
        R.same _ _
        (map-power R.keeps (power O g p.q) (2 ^ (p.s - 1)) ∙ ap (λ v. power (ops f) v (2 ^ (p.s - 1))) (map-power R.keeps g p.q ∙ ap (λ v. power (ops f) v p.q) same)
        ∙ p.half above ∙ ap (ops f).neg (sym R.keeps.one) ∙ sym (R.keeps.neg O.one));
  }

  pub root_nonzero : (n : ℕ) (g x : A) (o : Option A) → RootOrNone O n g x o → IfNone o (c x ≢ (ops f).zero)
  root_nonzero n g x (Some y) h = tt
  root_nonzero n g x None h = λ e. h.0 (R.same x O.zero (e ∙ sym R.keeps.zero))

  pub root_none : (g x : A) → c g ≡ generator_of f → (o : Option A) → RootOrNone O (value_count f) g x o
      → IfNone o (MeetsPremise f → (y : List ℕ) → IsRoot f (c x) y → ⊥)
  root_none g x same (Some y) h = tt
  root_none g x same None h = λ p l i.
      let y = R.every l i.0 in
      h.1 p.s p.q (premise_of g same p) y.0 (R.same _ _ (R.keeps.mul y.0 y.0 ∙ ap₂ (ops f).mul y.1 y.1 ∙ i.1))

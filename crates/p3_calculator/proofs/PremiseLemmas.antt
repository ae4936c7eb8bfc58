-- The premise of a finite field over coefficient lists, from that over the values of a type.
use Rattle.std.proofs.Common.{◌≡◌, ◌-◌, ◌^◌, ◌∙◌, ℕ, List, sym, ap, ap₂, inl, inr}
use Rattle.p3_theory.specs.Rings.Ring.{Ops}
use Rattle.p3_theory.specs.Rings.Powers.{power}
use Rattle.p3_theory.specs.Rings.Homomorphism.{map-power}
use Rattle.p3_theory.specs.Roots.SquareRoots.{FiniteFieldPremise}
use Rattle.p3_calculator.specs.Fields.{FieldSpec, ops, value_count, generator_of}
use Rattle.p3_calculator.specs.Premise.{MeetsPremise}
use Rattle.p3_calculator.specs.Representation.{Represents}

-- the lists c represent the values
pub meets_premise : {A : Type 0} (f : FieldSpec) (O : Ops A) (c : A → List ℕ) → Represents f O c → (g : A) → c g ≡ generator_of f → (s q : ℕ)
    → FiniteFieldPremise O (value_count f) s q (power O g q) → MeetsPremise f
meets_premise f O c R g same s q p = record {
  s = s;
  q = q;
  domain = λ x y vx vy z.
      let a = R.every x vx in
      let b = R.every y vy in
      elim (p.domain a.0 b.0 (R.same _ _ (R.keeps.mul a.0 b.0 ∙ ap₂ (ops f).mul a.1 b.1 ∙ z ∙ sym R.keeps.zero))) [
        | inl e ↦ inl (sym a.1 ∙ ap c e ∙ R.keeps.zero)
        | inr e ↦ inr (sym b.1 ∙ ap c e ∙ R.keeps.zero)
      ];
  split = p.split;
  odd = p.odd;
  half = λ above.
      sym (map-power R.keeps (power O g q) (2 ^ (s - 1)) ∙ ap (λ v. power (ops f) v (2 ^ (s - 1))) (map-power R.keeps g q ∙ ap (λ v. power (ops f) v q) same))
      ∙ ap c (p.half above) ∙ R.keeps.neg O.one ∙ ap (ops f).neg R.keeps.one;
}

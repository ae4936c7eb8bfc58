-- The finite-field premise of a type, told by computation on the numbers that stand for its values.
use Rattle.std.specs.Prelude.{◌≡◌, ◌<◌, ◌-◌, ◌*◌, ◌%◌, ◌^◌, ℕ}
use Rattle.std.proofs.Common.{ap, ◌∙◌, sym}
use Rattle.p3_theory.specs.Rings.Ring.{Ops, Hom}
use Rattle.p3_theory.specs.Rings.Powers.{power}
use Rattle.p3_theory.specs.Rings.Homomorphism.{map-power}
use Rattle.p3_theory.specs.Rings.ZeroDivisors.{HasNoZeroDivisors}
use Rattle.p3_theory.specs.Roots.SquareRoots.{FiniteFieldPremise}

-- h keeps the operations and takes distinct values to distinct ones
module _ {A B : Type 0} {O : Ops A} {P : Ops B} {h : A → B} (keeps : Hom O P h) (same : (x y : A) → h x ≡ h y → x ≡ y) (domain : HasNoZeroDivisors O) (n s q : ℕ)
    (split : n - 1 ≡ 2 ^ s * q) (odd : q % 2 ≡ 1) where
  -- d stands for c
  pub premise_by_image : (c : A) (d : B) → h c ≡ d → (0 < s → power P d (2 ^ (s - 1)) ≡ P.neg P.one) → FiniteFieldPremise O n s q c
  premise_by_image c d is half = record {
    domain = domain;
    split = split;
    odd = odd;
    half = λ pos. same _ _ (map-power keeps c (2 ^ (s - 1)) ∙ ap (λ v. power P v (2 ^ (s - 1))) is ∙ half pos ∙ sym (keeps.neg O.one ∙ ap P.neg keeps.one));
  }

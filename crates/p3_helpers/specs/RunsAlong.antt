-- A map that keeps the operations takes runs of steps to runs of steps.
use Rattle.std.specs.Prelude.{◌≡◌, ℕ, zero, suc, List, [], ◌∷◌, refl, map, slice_set}
use Rattle.std.proofs.Common.{ap, ap₂, ◌∙◌}
use Rattle.std.proofs.lemmas.List.{map-set}
use Rattle.p3_theory.specs.Rings.Ring.{Ops, Hom}
use Rattle.p3_theory.specs.Rings.Powers.{power}
use Rattle.p3_theory.specs.Rings.Multiples.{two}
use Rattle.p3_theory.specs.Rings.Homomorphism.{map-power}
use Rattle.p3_helpers.specs.declared.steps.Step.{Step}
use Rattle.p3_helpers.specs.declared.steps.Step.TheVariants.{Add, Sub, Mul, Neg, Square, Double, Exp, Mul2Exp}
use Rattle.p3_helpers.specs.Runs.{register, after_step, run}

module _ {A B : Type 0} {O : Ops A} {P : Ops B} {h : A → B} (k : Hom O P h) where
  at : (rs : List A) (i : ℕ) → h (register O rs i) ≡ register P (map h rs) i
  at [] i = k.zero
  at (r ∷ rs) zero = refl
  at (r ∷ rs) (suc i) = at rs i

  put : (rs : List A) (d : ℕ) (v : A) (w : B) → h v ≡ w → map h (slice_set rs d v) ≡ slice_set (map h rs) d w
  put rs d v w e = map-set h rs d v ∙ ap (slice_set (map h rs) d) e

  map-two : h (two O) ≡ two P
  map-two = k.add O.one O.one ∙ ap₂ P.add k.one k.one

  step-along : (s : Step) (rs : List A) → map h (after_step O s rs) ≡ after_step P s (map h rs)
  step-along (Add d a b) rs = put rs d _ _ (k.add _ _ ∙ ap₂ P.add (at rs a) (at rs b))
  step-along (Sub d a b) rs = put rs d _ _ (k.add _ _ ∙ ap₂ P.add (at rs a) (k.neg _ ∙ ap P.neg (at rs b)))
  step-along (Mul d a b) rs = put rs d _ _ (k.mul _ _ ∙ ap₂ P.mul (at rs a) (at rs b))
  step-along (Neg d a) rs = put rs d _ _ (k.neg _ ∙ ap P.neg (at rs a))
  step-along (Square d a) rs = put rs d _ _ (k.mul _ _ ∙ ap₂ P.mul (at rs a) (at rs a))
  step-along (Double d a) rs = put rs d _ _ (k.add _ _ ∙ ap₂ P.add (at rs a) (at rs a))
  step-along (Exp d a e) rs = put rs d _ _ (map-power k _ e ∙ ap (λ z. power P z e) (at rs a))
  step-along (Mul2Exp d a e) rs = put rs d _ _ (k.mul _ _ ∙ ap₂ P.mul (at rs a) (map-power k _ e ∙ ap (λ z. power P z e) map-two))

  pub run-along : (steps : List Step) (rs : List A) → map h (run O steps rs) ≡ run P steps (map h rs)
  run-along [] rs = refl
  run-along (s ∷ steps) rs = run-along steps (after_step O s rs) ∙ ap (run P steps) (step-along s rs)

  -- registers that a run made, along the map
  pub run-through : (steps : List Step) (new old : List A) → new ≡ run O steps old → map h new ≡ run P steps (map h old)
  run-through steps new old e = ap (map h) e ∙ run-along steps old

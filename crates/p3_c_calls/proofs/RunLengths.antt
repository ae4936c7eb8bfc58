-- A run keeps the number of registers, and is one of the same steps.
use Rattle.std.proofs.Common.{◌≡◌, ℕ, suc, List, [], ◌∷◌, length, ap, inl, inr, subst, ◌∙◌}
use Rattle.std.specs.Prelude.{Option, Result, Ok, Err, slice_set}
use Rattle.std.proofs.lemmas.List.{length-set}
use Rattle.p3_theory.specs.Rings.Ring.{Ops}
use Rattle.p3_helpers.specs.FieldRuns.{StepMay, RunMay}
use Rattle.p3_helpers.specs.declared.steps.field_steps.FieldStep.{FieldStep}
use Rattle.p3_helpers.specs.declared.steps.field_steps.FieldStep.TheVariants.{Add, Sub, Mul, Neg, Square, Double, Exp, Mul2Exp, Inv, Sqrt}
use Rattle.p3_helpers.specs.declared.steps.field_steps.StepFault.{StepFault}
use Rattle.p3_helpers.specs.declared.steps.field_steps.StepRefused.{StepRefused}

module _ {A : Type 0} (O : Ops A) (size : Option ℕ) (generator : A) where
  same : (new regs : List A) (d : ℕ) (v : A) → new ≡ slice_set regs d v → length new ≡ length regs
  same new regs d v e = ap length e ∙ length-set regs d v

  length-step : (s : FieldStep) (regs new : List A) (r : Result (Unit {0}) StepFault) → StepMay O size generator s regs r new → length new ≡ length regs
  length-step (Add d a b) regs new r h = same new regs d _ h.1
  length-step (Sub d a b) regs new r h = same new regs d _ h.1
  length-step (Mul d a b) regs new r h = same new regs d _ h.1
  length-step (Neg d a) regs new r h = same new regs d _ h.1
  length-step (Square d a) regs new r h = same new regs d _ h.1
  length-step (Double d a) regs new r h = same new regs d _ h.1
  length-step (Exp d a e) regs new r h = same new regs d _ h.1
  length-step (Mul2Exp d a e) regs new r h = same new regs d _ h.1
  length-step (Inv d a) regs new r (inl h) = same new regs d _ h.2.1
  length-step (Inv d a) regs new r (inr h) = ap length h.1.1
  length-step (Sqrt d a) regs new r (inl h) = same new regs d _ h.2.1
  length-step (Sqrt d a) regs new r (inr h) = ap length h.1.1

  pub length-run : (steps : List FieldStep) (i : ℕ) (regs new : List A) (r : Result (Unit {0}) StepRefused) → RunMay O size generator steps i regs r new → length new ≡ length regs
  length-run [] i regs new r h = ap length h.1
  length-run (s ∷ steps) i regs new r (inl h) = length-run steps (suc i) h.0 new r h.2 ∙ length-step s regs h.0 (Ok tt) h.1
  length-run (s ∷ steps) i regs new r (inr h) = length-step s regs new (Err h.0) h.1

  -- a run told of the same steps, registers and answer
  pub same-run : (ts us : List FieldStep) (xs ys new : List A) (r q : Result (Unit {0}) StepRefused) → ts ≡ us → xs ≡ ys → r ≡ q → RunMay O size generator ts 0 xs r new
      → RunMay O size generator us 0 ys q new
  same-run ts us xs ys new r q of from answers h =
      subst (λ s. RunMay O size generator us 0 ys s new) answers
      (subst (λ zs. RunMay O size generator us 0 zs r new) from (subst (λ (ss : List FieldStep). RunMay O size generator ss 0 xs r new) of h))

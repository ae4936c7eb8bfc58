-- Runs of steps on registers of a field, with inverses and square roots.
use Rattle.std.specs.Prelude.{◌≡◌, ◌≢◌, ◌<◌, ◌⊎◌, ℕ, suc, List, [], ◌∷◌, All, Option, None, Result, Ok, Err, IsSome, slice_set}
use Rattle.p3_theory.specs.Rings.Ring.{Ops, IsInverse}
use Rattle.p3_theory.specs.Roots.SquareRoots.{IsSquareRoot, CountedByGenerator}
use Rattle.p3_helpers.specs.Runs.{register, after_step}
use Rattle.p3_helpers.specs.declared.steps.Step.TheVariants as Plain
use Rattle.p3_helpers.specs.declared.steps.field_steps.FieldStep.{FieldStep}
use Rattle.p3_helpers.specs.declared.steps.field_steps.FieldStep.TheVariants.{Add, Sub, Mul, Neg, Square, Double, Exp, Mul2Exp, Inv, Sqrt}
use Rattle.p3_helpers.specs.declared.steps.field_steps.StepFault.{StepFault}
use Rattle.p3_helpers.specs.declared.steps.field_steps.StepFault.TheVariants.{NoInverse, NoRoot}
use Rattle.p3_helpers.specs.declared.steps.field_steps.StepRefused.{StepRefused}

-- a field by its operations, its order where that is given, and its generator
module _ {A : Type 0} (O : Ops A) (size : Option ℕ) (generator : A) where
  -- register d becomes v
  abbrev pub Sets : List A → ℕ → A → Result (Unit {0}) StepFault → List A → Type 0
  Sets regs d v result new = (result ≡ Ok tt) × (new ≡ slice_set regs d v)

  -- the step is refused, and the registers stand
  abbrev pub Refuses : List A → StepFault → Result (Unit {0}) StepFault → List A → Type 0
  Refuses regs k result new = (result ≡ Err k) × (new ≡ regs)

  -- register d becomes an inverse of x, and the step is refused where x has none
  abbrev pub Inverts : List A → ℕ → A → Result (Unit {0}) StepFault → List A → Type 0
  Inverts regs d x result new =
      ((y : A) × IsInverse O x y × Sets regs d y result new) ⊎ (((y : A) → O.mul x y ≢ O.one) × Refuses regs NoInverse result new)

  -- register d becomes a square root of x, and the step is refused where the counted search answers none
  abbrev pub TakesRoot : List A → ℕ → A → Result (Unit {0}) StepFault → List A → Type 0
  TakesRoot regs d x result new =
      ((r : A) × IsSquareRoot O x r × Sets regs d r result new)
      ⊎ (((turns : ℕ) × CountedByGenerator O size generator x None turns) × Refuses regs NoRoot result new)

  -- what a step may answer, and the registers after it
  abbrev pub StepMay : FieldStep → List A → Result (Unit {0}) StepFault → List A → Type 0
  StepMay (Add d a b) regs result new = (result ≡ Ok tt) × (new ≡ after_step O (Plain.Add d a b) regs)
  StepMay (Sub d a b) regs result new = (result ≡ Ok tt) × (new ≡ after_step O (Plain.Sub d a b) regs)
  StepMay (Mul d a b) regs result new = (result ≡ Ok tt) × (new ≡ after_step O (Plain.Mul d a b) regs)
  StepMay (Neg d a) regs result new = (result ≡ Ok tt) × (new ≡ after_step O (Plain.Neg d a) regs)
  StepMay (Square d a) regs result new = (result ≡ Ok tt) × (new ≡ after_step O (Plain.Square d a) regs)
  StepMay (Double d a) regs result new = (result ≡ Ok tt) × (new ≡ after_step O (Plain.Double d a) regs)
  StepMay (Exp d a e) regs result new = (result ≡ Ok tt) × (new ≡ after_step O (Plain.Exp d a e) regs)
  StepMay (Mul2Exp d a e) regs result new = (result ≡ Ok tt) × (new ≡ after_step O (Plain.Mul2Exp d a e) regs)
  StepMay (Inv d a) regs result new = Inverts regs d (register O regs a) result new
  StepMay (Sqrt d a) regs result new = TakesRoot regs d (register O regs a) result new

  -- what the steps may answer, the first one's index being i, and the registers after them: each step
  -- goes on from the registers that the one before it left, and the first that is refused ends the run
  abbrev pub RunMay : List FieldStep → ℕ → List A → Result (Unit {0}) StepRefused → List A → Type 0
  RunMay [] i regs result new = (result ≡ Ok tt) × (new ≡ regs)
  RunMay (s ∷ steps) i regs result new =
      ((next : List A) × StepMay s regs (Ok tt) next × RunMay steps (suc i) next result new)
      ⊎ ((k : StepFault) × StepMay s regs (Err k) new × (result ≡ Err (record { index = i; kind = k })))

-- the registers that a step names are below n
abbrev pub FieldStepFits : ℕ → FieldStep → Type 0
FieldStepFits n (Add d a b) = (d < n) × (a < n) × (b < n)
FieldStepFits n (Sub d a b) = (d < n) × (a < n) × (b < n)
FieldStepFits n (Mul d a b) = (d < n) × (a < n) × (b < n)
FieldStepFits n (Neg d a) = (d < n) × (a < n)
FieldStepFits n (Square d a) = (d < n) × (a < n)
FieldStepFits n (Double d a) = (d < n) × (a < n)
FieldStepFits n (Exp d a e) = (d < n) × (a < n)
FieldStepFits n (Mul2Exp d a e) = (d < n) × (a < n)
FieldStepFits n (Inv d a) = (d < n) × (a < n)
FieldStepFits n (Sqrt d a) = (d < n) × (a < n)

-- the same of every step
abbrev pub FieldFit : ℕ → List FieldStep → Type 0
FieldFit n steps = All (FieldStepFits n) steps

-- the order is given where the step takes a square root
abbrev pub OrderGiven : Option ℕ → FieldStep → Type 0
OrderGiven size (Sqrt d a) = IsSome size
OrderGiven size step = Unit {0}

-- the same of every step
abbrev pub OrdersGiven : Option ℕ → List FieldStep → Type 0
OrdersGiven size steps = All (OrderGiven size) steps

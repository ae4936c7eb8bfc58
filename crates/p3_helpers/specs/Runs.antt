-- Runs of steps on lists of registers, over any operations.
use Rattle.std.specs.Prelude.{◌<◌, ℕ, List, [], ◌∷◌, All, slice_set, slice_index_or}
use Rattle.p3_theory.specs.Rings.Ring.{Ops, subtract}
use Rattle.p3_theory.specs.Rings.Powers.{power}
use Rattle.p3_theory.specs.Rings.Multiples.{two}
use Rattle.p3_helpers.specs.declared.steps.Step.{Step}
use Rattle.p3_helpers.specs.declared.steps.Step.TheVariants.{Add, Sub, Mul, Neg, Square, Double, Exp, Mul2Exp}

module _ {A : Type 0} (O : Ops A) where
  -- what register k holds; zero past the last one
  abbrev pub register : List A → ℕ → A
  register regs k = slice_index_or regs k O.zero

  -- the registers after one step
  abbrev pub after_step : Step → List A → List A
  after_step (Add d a b) regs = slice_set regs d (O.add (register regs a) (register regs b))
  after_step (Sub d a b) regs = slice_set regs d (subtract O (register regs a) (register regs b))
  after_step (Mul d a b) regs = slice_set regs d (O.mul (register regs a) (register regs b))
  after_step (Neg d a) regs = slice_set regs d (O.neg (register regs a))
  after_step (Square d a) regs = slice_set regs d (O.mul (register regs a) (register regs a))
  after_step (Double d a) regs = slice_set regs d (O.add (register regs a) (register regs a))
  after_step (Exp d a e) regs = slice_set regs d (power O (register regs a) e)
  after_step (Mul2Exp d a e) regs = slice_set regs d (O.mul (register regs a) (power O (two O) e))

  -- the registers after the steps, one after the other
  abbrev pub run : List Step → List A → List A
  run [] regs = regs
  run (s ∷ steps) regs = run steps (after_step s regs)

-- the register that a step writes
abbrev pub destination : Step → ℕ
destination (Add d a b) = d
destination (Sub d a b) = d
destination (Mul d a b) = d
destination (Neg d a) = d
destination (Square d a) = d
destination (Double d a) = d
destination (Exp d a e) = d
destination (Mul2Exp d a e) = d

-- the registers that a step names are below n
abbrev pub StepFits : ℕ → Step → Type 0
StepFits n (Add d a b) = (d < n) × (a < n) × (b < n)
StepFits n (Sub d a b) = (d < n) × (a < n) × (b < n)
StepFits n (Mul d a b) = (d < n) × (a < n) × (b < n)
StepFits n (Neg d a) = (d < n) × (a < n)
StepFits n (Square d a) = (d < n) × (a < n)
StepFits n (Double d a) = (d < n) × (a < n)
StepFits n (Exp d a e) = (d < n) × (a < n)
StepFits n (Mul2Exp d a e) = (d < n) × (a < n)

-- the same of every step
abbrev pub Fit : ℕ → List Step → Type 0
Fit n steps = All (StepFits n) steps

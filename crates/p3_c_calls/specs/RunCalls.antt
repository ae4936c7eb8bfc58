-- Steps as C writes them, and what a run of them answers.
use Rattle.std.specs.Prelude.{◌≡◌, ℕ, List, [], ◌∷◌, All, Option, Some, Result, Ok, Err, MatchResult, length, map, slice_get}
use Rattle.p3_theory.specs.Rings.Ring.{Ops}
use Rattle.p3_helpers.specs.FieldRuns.{FieldStepFits, RunMay}
use Rattle.p3_helpers.specs.declared.steps.field_steps.FieldStep.{FieldStep}
use Rattle.p3_helpers.specs.declared.steps.field_steps.FieldStep.TheVariants.{Add, Sub, Mul, Neg, Square, Double, Exp, Mul2Exp, Inv, Sqrt}
use Rattle.p3_helpers.specs.declared.steps.field_steps.StepFault.{StepFault}
use Rattle.p3_helpers.specs.declared.steps.field_steps.StepFault.TheVariants as Faults
use Rattle.p3_c_words.specs.Words.{Words, AllStand, values}
use Rattle.p3_c_words.specs.declared.refusal.Refusal.{Refusal}
use Rattle.p3_c_words.specs.declared.refusal.Refusal.TheVariants.{Length, Word, NoInverse, NoRoot, LogSize, Memory, Step, Radix}
use Rattle.p3_c_calls.specs.declared.coded.RunStep.{RunStep}

-- the step that is written: the operations are numbered from 0 in this order
abbrev pub decoded : RunStep → Option FieldStep
decoded s =
    slice_get
    (Add s.d s.a s.b ∷ Sub s.d s.a s.b ∷ Mul s.d s.a s.b ∷ Neg s.d s.a ∷ Square s.d s.a ∷ Double s.d s.a ∷ Exp s.d s.a s.e ∷ Mul2Exp s.d s.a s.e ∷ Inv s.d s.a ∷ Sqrt s.d s.a ∷ []) s.op

-- the operation is known, and the registers are below n
abbrev pub IsStep : ℕ → RunStep → Type 0
IsStep n s = (t : FieldStep) × (decoded s ≡ Some t) × FieldStepFits n t

-- ts are the steps that are written
abbrev pub AreSteps : List RunStep → List FieldStep → Type 0
AreSteps steps ts = map decoded steps ≡ map Some ts

module _ {T A : Type 0} (O : Ops A) (R : Words T A) (size : Option ℕ) (generator : A) where
  -- the run over the values of the words ends at a step with this fault
  abbrev pub EndsBy : List RunStep → List T → StepFault → Type 0
  EndsBy steps ws fault =
      (ts : List FieldStep) × (i : ℕ) × (regs : List A) × AreSteps steps ts × RunMay O size generator ts 0 (values R ws) (Err (record { index = i; kind = fault })) regs

  -- why a run is refused
  abbrev pub RunRefused : List RunStep → List T → Refusal → Type 0
  RunRefused steps ws Step = All (IsStep (length ws)) steps → ⊥
  RunRefused steps ws Word = All (IsStep (length ws)) steps × (AllStand R ws → ⊥)
  RunRefused steps ws NoInverse = All (IsStep (length ws)) steps × AllStand R ws × EndsBy steps ws Faults.NoInverse
  RunRefused steps ws NoRoot = All (IsStep (length ws)) steps × AllStand R ws × EndsBy steps ws Faults.NoRoot
  RunRefused steps ws Memory = All (IsStep (length ws)) steps × AllStand R ws
  RunRefused steps ws Length = ⊥
  RunRefused steps ws LogSize = ⊥
  RunRefused steps ws Radix = ⊥

  -- the words of the registers after the run
  abbrev pub WritesRun : List RunStep → List T → List T → {U : Type 0} → Result U Refusal → Type 0
  WritesRun steps old new r =
      MatchResult r (λ _. (All (IsStep (length old)) steps × AllStand R old)
      × ((ts : List FieldStep) × (regs : List A) × AreSteps steps ts × RunMay O size generator ts 0 (values R old) (Ok tt) regs × (new ≡ map R.word regs)))
      (λ e. RunRefused steps old e × (new ≡ old))

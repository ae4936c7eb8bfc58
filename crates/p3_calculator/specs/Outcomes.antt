-- What the functions of a line answer, as an outcome.
use Rattle.std.specs.Prelude.{ℕ, [], Option, Some, None, Result, Ok, Err, Vec}
use Rattle.p3_calculator_text.specs.declared.faults.Fault.{Fault}
use Rattle.p3_calculator_text.specs.declared.faults.Fault.TheVariants.{NoField}
use Rattle.p3_calculator.specs.Effects.{Outcome, Continues, Faults}
use Rattle.p3_calculator.specs.States.{State}

-- the text that was made, in the state that was left
abbrev pub outcome : {A : Type 0} → Result (Vec ℕ A) Fault → State → Outcome
outcome (Ok text) st = Continues st text.items
outcome (Err k) st = Faults k

-- the same without a text
abbrev pub silent : Result (Unit {0}) Fault → State → Outcome
silent (Ok u) st = Continues st []
silent (Err k) st = Faults k

-- the registers that a name opens, by the state that they stand for
abbrev pub opened_as : {B : Type 0} → (B → State) → Option B → Outcome
opened_as state None = Faults NoField
opened_as state (Some bank) = Continues (state bank) []

-- The calculator's state.
use Rattle.std.specs.Prelude.{ℕ, List, [], Option, Some, None, get_or, replicate}
use Rattle.p3_calculator.specs.Fields.{FieldSpec, ops}

-- a field or none, and 16 registers, each with the coefficient list of a value
pub record State : Type 0 where
  pub field : Option FieldSpec
  pub registers : List (List ℕ)

-- before the first line
abbrev pub no_field : State
no_field = record { field = None; registers = replicate 16 [] }

-- the state with a field chosen and its registers
abbrev pub at_field : FieldSpec → List (List ℕ) → State
at_field s regs = record { field = Some s; registers = regs }

-- all registers are zero
abbrev pub all_zero : FieldSpec → State
all_zero s = at_field s (replicate 16 (ops s).zero)

-- what register r holds, as coefficients
abbrev pub register_at : List (List ℕ) → ℕ → List ℕ
register_at regs r = get_or regs r []

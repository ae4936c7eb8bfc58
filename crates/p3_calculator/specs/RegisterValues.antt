-- Registers that hold values of their field.
use Rattle.std.specs.Prelude.{◌≡◌, ◌<◌, ℕ, List, Option, Some, None}
use Rattle.p3_calculator.specs.Fields.{FieldSpec, IsValue, order, ops}
use Rattle.p3_calculator.specs.States.{State, register_at}
use Rattle.p3_calculator.specs.Effects.{IsInverse}

-- sums, negations and products of a field's values are values, zero is its own square, and a value has one inverse at most
pub record HasValues (s : FieldSpec) : Type 0 where
  pub above_one : 1 < order s
  pub zero_is : IsValue s (ops s).zero
  pub zero_square : (ops s).mul (ops s).zero (ops s).zero ≡ (ops s).zero
  pub one_is : IsValue s (ops s).one
  pub sum : (x y : List ℕ) → IsValue s x → IsValue s y → IsValue s ((ops s).add x y)
  pub negation : (x : List ℕ) → IsValue s x → IsValue s ((ops s).neg x)
  pub product : (x y : List ℕ) → IsValue s x → IsValue s y → IsValue s ((ops s).mul x y)
  pub one_inverse : (x y z : List ℕ) → IsValue s x → IsInverse s x y → IsInverse s x z → y ≡ z

-- each of the sixteen registers holds a value
abbrev pub HoldValues : FieldSpec → List (List ℕ) → Type 0
HoldValues s regs = (r : ℕ) → r < 16 → IsValue s (register_at regs r)

-- a chosen field has values, and the registers hold some
abbrev pub IsFilled : Option FieldSpec → List (List ℕ) → Type 0
IsFilled None regs = Unit {0}
IsFilled (Some s) regs = HasValues s × HoldValues s regs

-- the same of a state
abbrev pub Filled : State → Type 0
Filled st = IsFilled st.field st.registers

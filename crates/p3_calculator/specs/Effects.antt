-- What a line does.
use Rattle.std.specs.Prelude.{◌≡◌, ◌≢◌, ℕ, ◌-◌, ◌⊎◌, ◌==◌, nat_lt, if◌then◌else◌, List, [], ◌∷◌, ◌++◌, length, Option, Some, None, Result, Ok, Err, MatchBool, slice_set}
use Rattle.p3_calculator_text.specs.declared.commands.Command.{Command}
use Rattle.p3_calculator_text.specs.declared.commands.Command.TheVariants.{Field, Compute}
use Rattle.p3_calculator_text.specs.declared.commands.Operation.{Operation}
use Rattle.p3_calculator_text.specs.declared.commands.Operation.TheVariants.{Put, Binary, Unary, Pow, Inv, Sqrt, Show}
use Rattle.p3_calculator_text.specs.declared.commands.BinaryOperation.{BinaryOperation}
use Rattle.p3_calculator_text.specs.declared.commands.BinaryOperation.TheVariants.{Add, Sub, Mul}
use Rattle.p3_calculator_text.specs.declared.commands.UnaryOperation.{UnaryOperation}
use Rattle.p3_calculator_text.specs.declared.commands.UnaryOperation.TheVariants.{Neg, Sq, Dbl}
use Rattle.p3_calculator_text.specs.declared.faults.Fault.{Fault}
use Rattle.p3_calculator_text.specs.declared.faults.Fault.TheVariants.{UnknownCommand, WordCount, BadRegister, BadNumber, NoInverse, NoRoot, NoField, NoMemory, LongLine}
use Rattle.p3_theory.specs.Rings.Ring.{Ops, subtract}
use Rattle.p3_theory.specs.Rings.Powers.{power}
use Rattle.p3_calculator.specs.Display.{display}
use Rattle.p3_calculator.specs.States.{State, at_field, all_zero, register_at}
use Rattle.p3_calculator.specs.Fields.{FieldSpec, order, dimension, ops, IsValue}
use Rattle.p3_calculator.specs.Names.{field_named}
use Rattle.p3_calculator_text.specs.Lines.{words}
use Rattle.p3_calculator.specs.Premise.{MeetsPremise}
use Rattle.p3_calculator_text.specs.Words.{command_of, number, register, one_register, two_registers, three_registers, registers_and_number}

-- a line goes on from a new state after some text, or ends the run with a fault
pub data Outcome : Type 0 where
  Continues : State → List ℕ → Outcome
  Faults : Fault → Outcome

-- register r becomes the value v, and nothing is written
abbrev pub sets : FieldSpec → List (List ℕ) → ℕ → List ℕ → Outcome
sets s regs r v = Continues (at_field s (slice_set regs r v)) []

-- the line's arguments are read, or their fault ends the run
abbrev pub At : {A : Type 0} → Result A Fault → (A → Outcome → Type 0) → Outcome → Type 0
At (Ok a) P o = P a o
At (Err k) P o = o ≡ Faults k

-- an item before a list, where both are there
abbrev pub onto : Option ℕ → Option (List ℕ) → Option (List ℕ)
onto (Some c) (Some cs) = Some (c ∷ cs)
onto c cs = None

-- numbers below n
abbrev pub numbers_below : ℕ → List (List ℕ) → Option (List ℕ)
numbers_below n [] = Some []
numbers_below n (word ∷ more) = onto (number (n - 1) word) (numbers_below n more)

-- the registers are tested before the numbers
abbrev pub puts : FieldSpec → List (List ℕ) → Option ℕ → Option (List ℕ) → Outcome
puts s regs None v = Faults BadRegister
puts s regs (Some r) None = Faults BadNumber
puts s regs (Some r) (Some v) = sets s regs r v

-- what an operation gives of two values
abbrev pub binary : {A : Type 0} → BinaryOperation → Ops A → A → A → A
binary Add O x y = O.add x y
binary Sub O x y = subtract O x y
binary Mul O x y = O.mul x y

-- what an operation gives of a value
abbrev pub unary : {A : Type 0} → UnaryOperation → Ops A → A → A
unary Neg O x = O.neg x
unary Sq O x = O.mul x x
unary Dbl O x = O.add x x

-- y is a value with x * y = 1
abbrev pub IsInverse : FieldSpec → List ℕ → List ℕ → Type 0
IsInverse s x y = IsValue s y × ((ops s).mul x y ≡ (ops s).one)

-- register r becomes an inverse of the value x, and the fault stands only where there is none
abbrev pub Inverts : FieldSpec → List (List ℕ) → ℕ → List ℕ → Outcome → Type 0
Inverts s regs r x o = ((y : List ℕ) × IsInverse s x y × (o ≡ sets s regs r y))
    ⊎ (((y : List ℕ) → IsInverse s x y → ⊥) × (o ≡ Faults NoInverse))

-- y is a value with y * y = x
abbrev pub IsRoot : FieldSpec → List ℕ → List ℕ → Type 0
IsRoot s x y = IsValue s y × ((ops s).mul y y ≡ x)

-- register r becomes a square root of the value x, and the fault stands only where x isn't zero and,
-- under the premise of a finite field, has no root
abbrev pub TakesRoot : FieldSpec → List (List ℕ) → ℕ → List ℕ → Outcome → Type 0
TakesRoot s regs r x o = ((y : List ℕ) × IsRoot s x y × (o ≡ sets s regs r y))
    ⊎ ((x ≢ (ops s).zero) × (MeetsPremise s → (y : List ℕ) → IsRoot s x y → ⊥) × (o ≡ Faults NoRoot))

-- the value's text and byte 10 are written, or memory for them was refused
abbrev pub Shows : FieldSpec → List (List ℕ) → ℕ → Outcome → Type 0
Shows s regs r o = (o ≡ Continues (at_field s regs) (display (register_at regs r) ++ 10 ∷ [])) ⊎ (o ≡ Faults NoMemory)

-- a line of a chosen field, by what it computes and its arguments
abbrev pub Computes : Operation → FieldSpec → List (List ℕ) → List (List ℕ) → Outcome → Type 0
Computes Put s regs [] o = o ≡ Faults WordCount
Computes Put s regs (r ∷ cs) o = o ≡ (if length cs == dimension s then puts s regs (register r) (numbers_below (order s) cs) else Faults WordCount)
Computes (Binary f) s regs args o = At (three_registers args) (λ p o. o ≡ sets s regs p.0 (binary f (ops s) (register_at regs p.1) (register_at regs p.2))) o
Computes (Unary f) s regs args o = At (two_registers args) (λ p o. o ≡ sets s regs p.0 (unary f (ops s) (register_at regs p.1))) o
Computes Pow s regs args o = At (registers_and_number args) (λ p o. o ≡ sets s regs p.0 (power (ops s) (register_at regs p.1) p.2)) o
Computes Inv s regs args o = At (two_registers args) (λ p o. Inverts s regs p.0 (register_at regs p.1) o) o
Computes Sqrt s regs args o = At (two_registers args) (λ p o. TakesRoot s regs p.0 (register_at regs p.1) o) o
Computes Show s regs args o = At (one_register args) (Shows s regs) o

-- a field is chosen by its name
abbrev pub chosen : Option FieldSpec → Outcome
chosen None = Faults NoField
chosen (Some s) = Continues (all_zero s) []

-- what `field` answers
abbrev pub Chooses : List (List ℕ) → Outcome → Type 0
Chooses (name ∷ []) o = o ≡ chosen (field_named name)
Chooses args o = o ≡ Faults WordCount

-- any other line asks first for a chosen field
abbrev pub ComputesAt : Option FieldSpec → Operation → List (List ℕ) → List (List ℕ) → Outcome → Type 0
ComputesAt None operation regs args o = o ≡ Faults NoField
ComputesAt (Some s) operation regs args o = Computes operation s regs args o

-- what a command answers for its words
abbrev pub Commands : Option Command → State → List (List ℕ) → Outcome → Type 0
Commands None st args o = o ≡ Faults UnknownCommand
Commands (Some Field) st args o = Chooses args o
Commands (Some (Compute operation)) st args o = ComputesAt st.field operation st.registers args o

-- a line by its words: one without words does nothing
abbrev pub Does : State → List (List ℕ) → Outcome → Type 0
Does st [] o = o ≡ Continues st []
Does st (word ∷ args) o = Commands (command_of word) st args o

-- from state st, the line may have this outcome
abbrev pub May : State → List ℕ → Outcome → Type 0
May st line o = MatchBool (nat_lt 256 (length line)) (o ≡ Faults LongLine) (Does st (words line) o)

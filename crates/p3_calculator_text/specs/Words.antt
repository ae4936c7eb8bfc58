-- What a word says.
use Rattle.std.specs.Prelude.{ℕ, ◌+◌, ◌-◌, ◌*◌, ◌&&◌, nat_lt, nat_le, if◌then◌else◌, List, [], ◌∷◌, length, Option, Some, None, Result, Ok, Err, codes}
use Rattle.p3_calculator_text.specs.Tables.{lookup}
use Rattle.p3_calculator_text.specs.declared.commands.Command.{Command}
use Rattle.p3_calculator_text.specs.declared.commands.Command.TheVariants.{Field, Compute}
use Rattle.p3_calculator_text.specs.declared.commands.Operation.TheVariants.{Put, Binary, Unary, Pow, Inv, Sqrt, Show}
use Rattle.p3_calculator_text.specs.declared.commands.BinaryOperation.TheVariants.{Add, Sub, Mul}
use Rattle.p3_calculator_text.specs.declared.commands.UnaryOperation.TheVariants.{Neg, Sq, Dbl}
use Rattle.p3_calculator_text.specs.declared.faults.Fault.{Fault}
use Rattle.p3_calculator_text.specs.declared.faults.Fault.TheVariants.{WordCount, BadRegister, BadNumber}

-- the commands by their words
abbrev pub commands : List (List ℕ × Command)
commands =
    (codes "field", Field)
    ∷ (codes "put", Compute Put)
    ∷ (codes "add", Compute (Binary Add))
    ∷ (codes "sub", Compute (Binary Sub))
    ∷ (codes "mul", Compute (Binary Mul))
    ∷ (codes "neg", Compute (Unary Neg))
    ∷ (codes "sq", Compute (Unary Sq))
    ∷ (codes "dbl", Compute (Unary Dbl))
    ∷ (codes "pow", Compute Pow)
    ∷ (codes "inv", Compute Inv)
    ∷ (codes "sqrt", Compute Sqrt)
    ∷ (codes "show", Compute Show)
    ∷ []

-- the command that a word names
abbrev pub command_of : List ℕ → Option Command
command_of word = lookup commands word

-- the number that decimal digits make, after those before them
abbrev pub number_from : ℕ → List ℕ → Option ℕ
number_from n [] = Some n
number_from n (b ∷ bytes) = if nat_le 48 b && nat_le b 57 then number_from (10 * n + (b - 48)) bytes else None

-- a number that is not above a bound
abbrev pub up_to : ℕ → Option ℕ → Option ℕ
up_to most None = None
up_to most (Some n) = if nat_le n most then Some n else None

-- one or more decimal digits, up to a count of digits and a value
abbrev pub decimal_up_to : ℕ → ℕ → List ℕ → Option ℕ
decimal_up_to digits most word = if nat_lt 0 (length word) && nat_le (length word) digits then up_to most (number_from 0 word) else None

-- a number: one to twenty digits, up to a value
abbrev pub number : ℕ → List ℕ → Option ℕ
number most word = decimal_up_to 20 most word

-- a register: one or two digits, 0 to 15
abbrev pub register : List ℕ → Option ℕ
register word = decimal_up_to 2 15 word

-- a register, where it is one
abbrev pub one_of : Option ℕ → Result ℕ Fault
one_of (Some r) = Ok r
one_of r = Err BadRegister

-- two registers, where both are
abbrev pub two_of : Option ℕ → Option ℕ → Result (ℕ × ℕ) Fault
two_of (Some r) (Some a) = Ok (r, a)
two_of r a = Err BadRegister

-- three registers, where all are
abbrev pub three_of : Option ℕ → Option ℕ → Option ℕ → Result (ℕ × ℕ × ℕ) Fault
three_of (Some r) (Some a) (Some b) = Ok (r, a, b)
three_of r a b = Err BadRegister

-- the registers are tested before the number
abbrev pub two_with_number : Option ℕ → Option ℕ → Option ℕ → Result (ℕ × ℕ × ℕ) Fault
two_with_number (Some r) (Some a) (Some e) = Ok (r, a, e)
two_with_number (Some r) (Some a) None = Err BadNumber
two_with_number r a e = Err BadRegister

-- the words of a line's arguments as registers: their count is tested first
abbrev pub one_register : List (List ℕ) → Result ℕ Fault
one_register (r ∷ []) = one_of (register r)
one_register args = Err WordCount

-- two words as registers
abbrev pub two_registers : List (List ℕ) → Result (ℕ × ℕ) Fault
two_registers (r ∷ a ∷ []) = two_of (register r) (register a)
two_registers args = Err WordCount

-- three words as registers
abbrev pub three_registers : List (List ℕ) → Result (ℕ × ℕ × ℕ) Fault
three_registers (r ∷ a ∷ b ∷ []) = three_of (register r) (register a) (register b)
three_registers args = Err WordCount

-- two registers and a number of up to 64 bits
abbrev pub registers_and_number : List (List ℕ) → Result (ℕ × ℕ × ℕ) Fault
registers_and_number (r ∷ a ∷ e ∷ []) = two_with_number (register r) (register a) (number 18446744073709551615 e)
registers_and_number args = Err WordCount

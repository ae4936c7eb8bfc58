-- The state that the registers of a bank stand for.
use Rattle.p3_calculator.specs.declared.bank.Bank.{Bank}
use Rattle.p3_calculator.specs.declared.bank.Bank.TheVariants.{Empty, Residues, Quadratic, Middle, High}
use Rattle.p3_calculator.specs.States.{State, no_field}

-- the state that the registers of a kind stand for
abbrev pub state_of : Bank → State
state_of Empty = no_field
state_of (Residues st) = st
state_of (Quadratic st) = st
state_of (Middle st) = st
state_of (High st) = st

-- The number and the line of each fault.
use Rattle.std.specs.Prelude.{ℕ, List, [], ◌∷◌, ◌++◌, codes, decimal}
use Rattle.p3_calculator_text.specs.declared.faults.Fault.{Fault}
use Rattle.p3_calculator_text.specs.declared.faults.Fault.TheVariants.{UnknownCommand, WordCount, BadRegister, BadNumber, NoInverse, NoRoot, NoField, NoMemory, ReadFault, LongLine}

-- the number of a fault, as its line tells it
abbrev pub fault_code : Fault → ℕ
fault_code UnknownCommand = 1
fault_code WordCount = 2
fault_code BadRegister = 3
fault_code BadNumber = 4
fault_code NoInverse = 5
fault_code NoRoot = 6
fault_code NoField = 7
fault_code NoMemory = 8
fault_code ReadFault = 9
fault_code LongLine = 10

-- the line of a fault at line n
abbrev pub fault_line : ℕ → Fault → List ℕ
fault_line n fault = codes "line " ++ decimal n ++ codes ": fault " ++ decimal (fault_code fault) ++ 10 ∷ []

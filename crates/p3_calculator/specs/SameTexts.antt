-- When two texts of the same lines are one text.
use Rattle.std.specs.Prelude.{◌≡◌, ◌≢◌, ℕ, ◌+◌, ◌⊎◌, List, [], ◌∷◌, ◌++◌, take, codes}
use Rattle.p3_calculator_text.specs.declared.faults.Fault.TheVariants.{NoMemory}
use Rattle.p3_calculator.specs.States.{State}
use Rattle.p3_calculator_text.specs.Lines.{words}
use Rattle.p3_calculator_text.specs.Faults.{fault_line}
use Rattle.p3_calculator.specs.Text.{IsTextFrom}

-- the words of a line that takes no square root
abbrev pub TakesNoRoot : List (List ℕ) → Type 0
TakesNoRoot [] = Unit {0}
TakesNoRoot (word ∷ args) = word ≢ codes "sqrt"

-- no line takes a square root
abbrev pub TakeNoRoots : List (List ℕ) → Type 0
TakeNoRoots [] = Unit {0}
TakeNoRoots (line ∷ lines) = TakesNoRoot (words line) × TakeNoRoots lines

-- after k lines, what a text is of them is followed by the fault of refused memory, where the other text goes on
abbrev pub EndsForMemory : ℕ → State → List (List ℕ) → List ℕ → ℕ → List ℕ → Type 0
EndsForMemory n st lines text status other =
    (k : ℕ) × (before rest : List ℕ) × IsTextFrom n st (take k lines) before 0 × (text ≡ before ++ fault_line (n + k) NoMemory) × (status ≡ 1) × (other ≡ before ++ rest)

-- two texts from state st, with n the number of the first line, are the same, or memory was refused in one of them
abbrev pub AreOneFrom : ℕ → State → List (List ℕ) → List ℕ → ℕ → List ℕ → ℕ → Type 0
AreOneFrom n st lines a s b t = ((a ≡ b) × (s ≡ t)) ⊎ (EndsForMemory n st lines a s b ⊎ EndsForMemory n st lines b t a)

-- The texts of the calculator, and how a run ends.
use Rattle.std.specs.Prelude.{◌≡◌, ℕ, ◌+◌, ◌≤◌, ◌⊎◌, ◌==◌, Bool, true, false, if◌then◌else◌, List, [], ◌∷◌, ◌++◌, length, take}
use Rattle.p3_calculator_text.specs.declared.faults.Fault.TheVariants.{ReadFault}
use Rattle.p3_calculator.specs.Effects.{Outcome, Continues, Faults, May}
use Rattle.p3_calculator.specs.States.{State, no_field}
use Rattle.p3_calculator_text.specs.Faults.{fault_line}
use Rattle.p3_calculator_text.specs.Lines.{lines_of}

-- after an outcome of line n, the text goes on with the rest, or ends with the fault's line
abbrev pub After : ℕ → Outcome → (State → List ℕ → ℕ → Type 0) → List ℕ → ℕ → Type 0
After n (Continues st out) Rest text status = (more : List ℕ) × Rest st more status × (text ≡ out ++ more)
After n (Faults fault) Rest text status = (text ≡ fault_line n fault) × (status ≡ 1)

-- from state st, with n the number of the first line, the lines may make this text and status
abbrev pub IsTextFrom : ℕ → State → List (List ℕ) → List ℕ → ℕ → Type 0
IsTextFrom n st [] text status = (text ≡ []) × (status ≡ 0)
IsTextFrom n st (line ∷ lines) text status = (o : Outcome) × May st line o × After n o (λ t more final. IsTextFrom (n + 1) t lines more final) text status

-- the text and the status of a whole input, from no field and line 1
abbrev pub IsText : List (List ℕ) → List ℕ → ℕ → Type 0
IsText lines text status = IsTextFrom 1 no_field lines text status

-- how many bytes 10 there are
abbrev pub ends : List ℕ → ℕ
ends [] = 0
ends (b ∷ bytes) = (if b == 10 then 1 else 0) + ends bytes

-- the bytes behind the last byte 10
abbrev pub rest_of : List ℕ → List ℕ
rest_of [] = []
rest_of (b ∷ bytes) = if ends (b ∷ bytes) == 0 then b ∷ bytes else rest_of bytes

-- Nothing failed: the whole input was read, or a fault stands in what was read, whatever follows it.
abbrev pub IsComplete : Type 0 → List ℕ → List ℕ → ℕ → Type 0
IsComplete at_end bytes text status = (at_end × IsText (lines_of bytes) text status) ⊎ ((status ≡ 1) × ((more : List ℕ) → IsText (lines_of (bytes ++ more)) text 1))

-- The read of line N failed: the text of the whole lines before it, without a fault, and the fault of the read at line N.
abbrev pub IsCutShort : List ℕ → List ℕ → Type 0
IsCutShort bytes text = (before : List ℕ) × IsText (take (ends bytes) (lines_of bytes)) before 0 × (length (rest_of bytes) ≤ 256) × (text ≡ before ++ fault_line (ends bytes + 1) ReadFault)

-- the text begins one of this input
abbrev pub BeginsText : List (List ℕ) → List ℕ → Type 0
BeginsText lines text = (rest : List ℕ) × (status : ℕ) × IsText lines (text ++ rest) status

-- A write failed and no read: what was written begins a text, of the whole input or whatever follows what was read.
abbrev pub IsBegun : Type 0 → List ℕ → List ℕ → Type 0
IsBegun at_end bytes text = (at_end × BeginsText (lines_of bytes) text) ⊎ ((more : List ℕ) → BeginsText (lines_of (bytes ++ more)) text)

-- How a run ends that read these bytes, by whether a read and a write failed, and by what it is to be at the input's end.
abbrev pub RunEnds : Bool → Bool → Type 0 → List ℕ → List ℕ → ℕ → Type 0
RunEnds false false at_end bytes text status = IsComplete at_end bytes text status
RunEnds true false at_end bytes text status = (status ≡ 1) × IsCutShort bytes text
RunEnds false true at_end bytes text status = (status ≡ 2) × IsBegun at_end bytes text
RunEnds true true at_end bytes text status = (status ≡ 2) × ((rest : List ℕ) × IsCutShort bytes (text ++ rest))

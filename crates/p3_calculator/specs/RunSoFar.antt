-- Between two bytes of the input.
use Rattle.std.specs.Prelude.{◌≡◌, ℕ, ◌+◌, ◌⊎◌, Bool, true, List, [], ◌∷◌, ◌++◌, length, take, Option, Result, Ok, Err}
use Rattle.std.specs.List.{flat_map}
use Rattle.std.specs.Io.KnownBytes.{Appends}
use Rattle.p3_calculator.specs.declared.machine.Machine.{Machine}
use Rattle.p3_calculator.specs.declared.machine.Stop.{Stop}
use Rattle.p3_calculator.specs.declared.machine.Stop.TheVariants.{AtFault, AtWrite}
use Rattle.p3_calculator.specs.Bank.{state_of}
use Rattle.p3_calculator_text.specs.Lines.{lines_of}
use Rattle.p3_calculator.specs.RegisterValues.{Filled}
use Rattle.p3_calculator_text.specs.Streams.{AppendsFront}
use Rattle.p3_calculator_text.specs.Faults.{fault_line}
use Rattle.p3_calculator.specs.Text.{IsTextFrom, IsText, BeginsText}

-- no byte is 10
abbrev pub HasNoEnd : List ℕ → Type 0
HasNoEnd [] = Unit {0}
HasNoEnd (b ∷ bytes) = (b ≡ 10 → ⊥) × HasNoEnd bytes

-- none of the lines has an end of line in it
abbrev pub HaveNoEnd : List (List ℕ) → Type 0
HaveNoEnd [] = Unit {0}
HaveNoEnd (line ∷ lines) = HasNoEnd line × HaveNoEnd lines

-- a line with its byte 10
abbrev pub ended : List ℕ → List ℕ
ended line = line ++ 10 ∷ []

-- These bytes were taken and this text written: the whole lines were carried out, and the rest stands in the buffer.
pub record RunSoFar (machine : Machine) (bytes text : List ℕ) : Type 0 where
  pub lines : List (List ℕ)
  pub each : HaveNoEnd lines
  pub bytes_are : bytes ≡ flat_map ended lines ++ take machine.line.used machine.line.bytes
  pub pending : HasNoEnd (take machine.line.used machine.line.bytes)
  pub number : machine.number ≡ length lines + 1
  pub filled : Filled (state_of machine.bank)
  -- whatever the lines from here on make, is made behind this text
  pub goes_on : (ls : List (List ℕ)) (more : List ℕ) (status : ℕ) → IsTextFrom machine.number (state_of machine.bank) ls more status → IsText (lines ++ ls) (text ++ more) status

-- after some more bytes and some more text: the machine stands, a fault stands whatever follows, or a text is begun whatever follows
abbrev pub RunAfter : Machine → Result (Unit {0}) Stop → List ℕ → List ℕ → Type 0
RunAfter machine (Ok u) bytes text = RunSoFar machine bytes text
RunAfter machine (Err (AtFault fault)) bytes text = (more : List ℕ) → IsText (lines_of (bytes ++ more)) (text ++ fault_line machine.number fault) 1
RunAfter machine (Err AtWrite) bytes text = (more : List ℕ) → BeginsText (lines_of (bytes ++ more)) text

-- the bytes were taken, and what was written for them follows what was written before
abbrev pub TakesBytes : Machine → Machine → Option (List ℕ) → Option (List ℕ) → Result (Unit {0}) Stop → List ℕ → Type 0
TakesBytes old new sink_old sink_new result bytes = (before text : List ℕ) → RunSoFar old before text
    → (out : List ℕ) × Appends sink_old sink_new out × RunAfter new result (before ++ bytes) (text ++ out)

-- a run stops for the writer only where a write failed
abbrev pub StopsAtFailure : Result (Unit {0}) Stop → Bool → Bool → Type 0
StopsAtFailure (Ok u) old new = new ≡ old
StopsAtFailure (Err (AtFault fault)) old new = new ≡ old
StopsAtFailure (Err AtWrite) old new = new ≡ true

-- all of the line was written, with this status, or a front of it, with status 2
abbrev pub Ended : Option (List ℕ) → Option (List ℕ) → Bool → Bool → List ℕ → ℕ → ℕ → Type 0
Ended sink_old sink_new failed_old failed_new line good status =
    ((status ≡ good) × (failed_new ≡ failed_old) × Appends sink_old sink_new line)
    ⊎ ((status ≡ 2) × (failed_new ≡ true) × AppendsFront sink_old sink_new line)

-- after a stop: the line of the fault, or nothing more
abbrev pub EndedAt : Stop → ℕ → Option (List ℕ) → Option (List ℕ) → Bool → Bool → ℕ → Type 0
EndedAt (AtFault fault) number sink_old sink_new failed_old failed_new status = Ended sink_old sink_new failed_old failed_new (fault_line number fault) 1 status
EndedAt AtWrite number sink_old sink_new failed_old failed_new status = (status ≡ 2) × (failed_new ≡ failed_old) × (sink_new ≡ sink_old)

-- the pending bytes were the last line
abbrev pub Finishes : Machine → Option (List ℕ) → Option (List ℕ) → Bool → Bool → ℕ → Type 0
Finishes old sink_old sink_new failed_old failed_new status = (bytes text : List ℕ) → RunSoFar old bytes text
    → (out : List ℕ) × Appends sink_old sink_new out
    × (((failed_new ≡ failed_old) × IsText (lines_of bytes) (text ++ out) status)
    ⊎ ((status ≡ 2) × (failed_new ≡ true) × BeginsText (lines_of bytes) (text ++ out)))

-- What a call from C tells by its status.
use Rattle.std.specs.Prelude.{◌≡◌, ℤ, pos, Result, Ok, Err, ⊤}
use Rattle.p3_c_words.specs.declared.refusal.Refusal.{Refusal}
use Rattle.p3_c_words.specs.declared.refusal.Refusal.TheVariants.{Length, Word, NoInverse, NoRoot, LogSize, Memory, Step, Radix}

-- the status of a refusal
abbrev pub number_of : Refusal → ℤ
number_of Length = pos 1
number_of Word = pos 2
number_of NoInverse = pos 3
number_of NoRoot = pos 4
number_of LogSize = pos 5
number_of Memory = pos 6
number_of Step = pos 7
number_of Radix = pos 8

-- the status of what a call answers
abbrev pub status_of : {T : Type 0} → Result T Refusal → ℤ
status_of (Ok x) = pos 0
status_of (Err e) = number_of e

-- what is written, or what was there
abbrev pub or_old : {T : Type 0} → Result T Refusal → T → T
or_old (Ok x) old = x
or_old (Err e) old = old

-- an answer of which P holds is told by the status, and is written where there is one
abbrev pub Answers : {T : Type 0} → (Result T Refusal → Type 0) → T → T → ℤ → Type 0
Answers {T} P old new status = (r : Result T Refusal) × P r × (status ≡ status_of r) × (new ≡ or_old r old)

-- a call that writes over a slice, of whose answer P holds, tells it by the status
abbrev pub Tells : (Result ⊤ Refusal → Type 0) → ℤ → Type 0
Tells P status = (r : Result ⊤ Refusal) × P r × (status ≡ status_of r)

-- The one reference to the table of depths, held where two numbers are unlike.
use Rattle.std.specs.Prelude.{ℕ, Bool, true, false, eqb, Option, None, Some}
use Rattle.std.specs.Borrow.{Bor}

abbrev pub held_if : Bool → ℕ × ℕ → Option (Bor (Unit {0}))
held_if true place = None
held_if false place = Some (record { ref_ptr = place; now = tt })

abbrev pub held : ℕ → ℕ → ℕ × ℕ → Option (Bor (Unit {0}))
held a b place = held_if (eqb a b) place

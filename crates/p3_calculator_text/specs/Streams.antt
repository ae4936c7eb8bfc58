-- What a read and a write leave.
use Rattle.std.specs.Prelude.{◌≡◌, ℕ, Bool, true, ◌&&◌, nat_eq, nat_lt, if◌then◌else◌, List, length, take, ◌≤◌, ◌-◌, Option, Some, None, Result, MatchResult}
use Rattle.std.specs.Io.KnownBytes.{Appends}

-- at Ok nothing has failed since, at Err something has
abbrev pub TellsFailure : {T E : Type 0} → Bool → Bool → Result T E → Type 0
TellsFailure old new r = MatchResult r (λ _. new ≡ old) (λ _. new ≡ true)

-- the same of a write, where taking none of some bytes is a failure too
abbrev pub TellsWriteFailure : {E : Type 0} → Bool → Bool → Result ℕ E → ℕ → Type 0
TellsWriteFailure old new r len = MatchResult r (λ n. new ≡ (if nat_eq n 0 && nat_lt 0 len then true else old)) (λ _. new ≡ true)

-- a front of these bytes was written
abbrev pub AppendsFront : Option (List ℕ) → Option (List ℕ) → List ℕ → Type 0
AppendsFront old new bytes = (n : ℕ) × (n ≤ length bytes) × Appends old new (take n bytes)

-- one of the reads that are left was made, where they are counted
abbrev pub one_less : Option ℕ → Option ℕ
one_less None = None
one_less (Some n) = Some (n - 1)

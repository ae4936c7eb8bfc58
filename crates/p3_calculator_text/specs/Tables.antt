-- Tables by words.
use Rattle.std.specs.Prelude.{ℕ, if◌then◌else◌, List, [], ◌∷◌, Option, Some, None}
use Rattle.std.specs.Str.{bytes_eq}

-- what stands beside a word in a table, where the word is there
abbrev pub lookup : {A : Type 0} → List (List ℕ × A) → List ℕ → Option A
lookup [] word = None
lookup (entry ∷ entries) word = if bytes_eq word entry.0 then Some entry.1 else lookup entries word

-- Bytes as lines, and a line as words.
use Rattle.std.specs.Prelude.{ℕ, ◌==◌, if◌then◌else◌, List, [], ◌∷◌}

-- a byte at the front of the first line
abbrev pub onto_first : ℕ → List (List ℕ) → List (List ℕ)
onto_first b [] = (b ∷ []) ∷ []
onto_first b (line ∷ lines) = (b ∷ line) ∷ lines

-- bytes are cut after each byte 10, and a rest that isn't empty is a line
abbrev pub lines_of : List ℕ → List (List ℕ)
lines_of [] = []
lines_of (b ∷ bytes) = if b == 10 then [] ∷ lines_of bytes else onto_first b (lines_of bytes)

-- a letter belongs to the word that goes on behind it
abbrev pub letter_onto : ℕ → List ℕ → List (List ℕ) → List (List ℕ)
letter_onto b [] words = (b ∷ []) ∷ words
letter_onto b (c ∷ bytes) words = if c == 32 then (b ∷ []) ∷ words else onto_first b words

-- words are separated by one or more spaces
abbrev pub words : List ℕ → List (List ℕ)
words [] = []
words (b ∷ bytes) = if b == 32 then words bytes else letter_onto b bytes (words bytes)

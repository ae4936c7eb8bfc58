-- How many values a linear combination may take at a time.
use Rattle.std.specs.Prelude.{ℕ, [], ◌∷◌, Contains}

-- one of 1, 2, 4, 8, 16, 32 and 64
abbrev pub IsChunkLength : ℕ → Type 0
IsChunkLength n = Contains (1 ∷ 2 ∷ 4 ∷ 8 ∷ 16 ∷ 32 ∷ 64 ∷ []) n

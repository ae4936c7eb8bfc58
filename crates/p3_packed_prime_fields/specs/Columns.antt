-- The values at an index of rows.
use Rattle.std.specs.Prelude.{ℕ, List, get_or, map}

-- entry k of each row; d past a row's end
abbrev pub column : {A : Type 0} → ℕ → A → List (List A) → List A
column k d rows = map (λ row. get_or row k d) rows

-- The degrees whose products modulo X^D - W have a formula of their own.
use Rattle.std.specs.Prelude.{ℕ, Bool, ◌||◌, ◌==◌}

-- the degrees whose products have a formula of their own
abbrev pub has_fixed_formula : ℕ → Bool
has_fixed_formula D = (D == 2) || ((D == 3) || ((D == 4) || ((D == 5) || (D == 8))))

-- The text of a coefficient list, as `3 + 11 X`.
use Rattle.std.specs.Prelude.{ℕ, ◌==◌, List, decimal}
use Rattle.p3_theory.specs.Polynomials.Text.{polynomial_text}

-- the terms that are not zero, with their coefficients in decimal
abbrev pub display : List ℕ → List ℕ
display cs = polynomial_text (λ c. c == 0) (λ c. c == 1) decimal cs

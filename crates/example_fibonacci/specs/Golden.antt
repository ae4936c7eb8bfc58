use Rattle.std.specs.Prelude.{List, [], ◌∷◌, ℤ, pos}
use Rattle.p3_field.specs.IntegerPolynomials.{minus_one}

-- X^2 - X - 1
abbrev pub golden : List ℤ
golden = minus_one ∷ minus_one ∷ pos 1 ∷ []

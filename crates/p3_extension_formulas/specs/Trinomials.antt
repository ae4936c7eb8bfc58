-- The trinomials of the extensions, by their integer coefficients.
use Rattle.std.proofs.Common.{List, [], ◌∷◌}
use Rattle.std.specs.Prelude.{ℤ, pos}
use Rattle.p3_theory.specs.Polynomials.IntegerPolynomials.{minus_one}

-- X^3 - X - 1
abbrev pub cubic_trinomial : List ℤ
cubic_trinomial = minus_one ∷ minus_one ∷ pos 0 ∷ pos 1 ∷ []

-- X^5 + X^2 - 1
abbrev pub quintic_trinomial : List ℤ
quintic_trinomial = minus_one ∷ pos 0 ∷ pos 1 ∷ pos 0 ∷ pos 0 ∷ pos 1 ∷ []

-- X^7 - X - 1
abbrev pub septic_trinomial : List ℤ
septic_trinomial = minus_one ∷ minus_one ∷ pos 0 ∷ pos 0 ∷ pos 0 ∷ pos 0 ∷ pos 0 ∷ pos 1 ∷ []

-- Lists of coefficients, entry by entry.
use Rattle.std.specs.Prelude.{ℕ, List}
use Rattle.p3_theory.specs.Rings.Ring.{Ops, subtract}
use Rattle.p3_theory.specs.Polynomials.Polynomial.{tabulate, at}

-- entry k is that of a less that of b
abbrev pub entrywise_difference : {A : Type 0} → Ops A → ℕ → List A → List A → List A
entrywise_difference o D a b = tabulate D (λ k. subtract o (at o a k) (at o b k))

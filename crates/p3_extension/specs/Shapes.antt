-- The polynomial of the shape X^D = W.
use Rattle.std.specs.Prelude.{◌≡◌, ℕ, List}
use Rattle.p3_theory.specs.Rings.Ring.{Ops}
use Rattle.p3_theory.specs.Polynomials.Polynomial.{binomial}

-- X^D - w for some w
abbrev pub IsBinomial : {A : Type 0} → Ops A → ℕ → List A → Type 0
IsBinomial {A} o D f = (w : A) × (f ≡ binomial o D w)

-- Inverses of coefficient lists modulo a polynomial.
use Rattle.std.specs.Prelude.{◌≡◌, ◌≢◌, ℕ, List, length}
use Rattle.p3_theory.specs.Rings.Ring.{Ops}
use Rattle.p3_theory.specs.Polynomials.Polynomial.{quotient_mul, embed}

-- no list of length D times x is one modulo f
abbrev pub HasNoInverse : {A : Type 0} → Ops A → ℕ → List A → List A → Type 0
HasNoInverse {A = A} o D f x = (y : List A) → length y ≡ D → quotient_mul o D f x y ≢ embed o D o.one

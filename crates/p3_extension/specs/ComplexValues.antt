-- The operations of an extension by X^2 = -1.
use Rattle.std.specs.Prelude.{◌≤◌, ◌<◌, ℕ}
use Rattle.p3_theory.specs.Rings.Ring.{Ops, Invertible, subtract}
use Rattle.p3_theory.specs.Rings.Powers.{power}
use Rattle.p3_theory.specs.Polynomials.Polynomial.{binomial}
use Rattle.p3_extension.specs.Values.{ext_ops}
use Rattle.p3_extension.specs.declared.extension.ext_field.ExtField.{ExtField}

-- sums by coefficient, products modulo X^2 + 1
abbrev pub complex_ops : {F S A : Type 0} → Ops A → Ops (ExtField F 2 S A)
complex_ops o = ext_ops o (binomial o 2 (o.neg o.one))

-- the powers of c from 1 to D - 1, each less one, have inverses
abbrev pub ArePowersApart : {A : Type 0} → Ops A → ℕ → A → Type 0
ArePowersApart o D c = (k : ℕ) → 1 ≤ k → k < D → Invertible o (subtract o (power o c k) o.one)

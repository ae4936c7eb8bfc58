-- Extensions without zero divisors.
use Rattle.std.proofs.Common.{ap, inl, inr}
use Rattle.p3_theory.specs.Rings.Ring.{Ops, RingLaws, ring_of}
use Rattle.p3_theory.specs.Polynomials.Polynomial.{binomial}
use Rattle.p3_theory.specs.Rings.ZeroDivisors.{HasNoZeroDivisors}
use Rattle.p3_theory.specs.Inverses.QuadraticDomains.{OnlyZeroHasNormZero, quadratic_domain}
use Rattle.p3_extension.specs.Values.{ext_ops, same_value}
use Rattle.p3_extension.specs.declared.extension.ext_field.ExtField.{ExtField}

-- by X^2 = w, where only zero has the norm zero
pub quadratic_has_no_zero_divisors : {F S A : Type 0} {O : Ops A} → RingLaws O → (w : A) → HasNoZeroDivisors O → OnlyZeroHasNormZero O w
    → HasNoZeroDivisors {A = ExtField F 2 S A} (ext_ops O (binomial O 2 w))
quadratic_has_no_zero_divisors {F} {S} {A} {O} l w domain exact x y e =
    elim (quadratic_domain (ring_of l) w domain exact x.value y.value x.sized y.sized (ap (λ (v : ExtField F 2 S A). v.value) e)) [
      | inl p ↦ inl (same_value x (ext_ops O (binomial O 2 w)).zero p)
      | inr p ↦ inr (same_value y (ext_ops O (binomial O 2 w)).zero p)
    ]

-- What is left of a list modulo a monic polynomial: that it is, and that it is the only one.
use Rattle.std.specs.Prelude.{◌≡◌, ◌≤◌, ℕ, List}
use Rattle.std.proofs.Common.{zero, suc, arith}
use Rattle.p3_theory.specs.Rings.Ring.{Ring}
use Rattle.p3_theory.specs.Polynomials.Polynomial.{IsMonic, IsRemainder, remainder}
use Rattle.p3_theory.specs.Polynomials.Congruence as Congruence

pub has_remainder : {A : Type 0} (R : Ring A) (D : ℕ) → 2 ≤ D → (f : List A) → IsMonic R.ops D f → (c : List A) → IsRemainder R.ops D f c (remainder R.ops D f c)
has_remainder R zero h f m c = absurd (omega arith)
has_remainder R (suc d) h f m c = Congruence.remainder-is R d f m c

pub remainder_is_unique : {A : Type 0} (R : Ring A) (D : ℕ) → 2 ≤ D → (f : List A) → IsMonic R.ops D f → (c r : List A) → IsRemainder R.ops D f c r → r ≡ remainder R.ops D f c
remainder_is_unique R zero h f m c r i = absurd (omega arith)
remainder_is_unique R (suc d) h f m c r i = Congruence.remainder_unique R d f m c r (remainder R.ops (suc d) f c) i (Congruence.remainder-is R d f m c)

-- Products that are written, or added to zeros.
use Rattle.std.specs.Prelude.{◌≡◌, ℕ, List, Bool, true, false, IsTrue, IsFalse, replicate, refl}
use Rattle.p3_theory.specs.Rings.Ring.{Ring}
use Rattle.p3_theory.specs.Polynomials.Polynomial.{quotient_mul, quotient_add}
use Rattle.p3_theory.specs.Products.CoefficientProducts.{product_onto_zeros}

-- either way the product is there
pub product_is_there : {A : Type 0} (R : Ring A) (D : ℕ) (f a b zeros r : List A) {written : Bool} → zeros ≡ replicate D R.zero
    → (IsTrue written → r ≡ quotient_mul R.ops D f a b) → (IsFalse written → r ≡ quotient_add R.ops D zeros (quotient_mul R.ops D f a b))
    → r ≡ quotient_mul R.ops D f a b
product_is_there R D f a b zeros r {written = true} z becomes added = becomes refl
product_is_there R D f a b zeros r {written = false} z becomes added = product_onto_zeros R D f a b zeros r z (added refl)

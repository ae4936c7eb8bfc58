-- What operators between values and coefficients give.
use Rattle.std.specs.Prelude.{◌≡◌, ◌<◌, ◌≤◌, ℕ, List, get_or}
use Rattle.std.proofs.Common.{arith, ◌∙◌}
use Rattle.p3_theory.specs.Rings.Ring.{Ring, subtract}
use Rattle.p3_theory.specs.Polynomials.Polynomial.{IsMonic, at}
use Rattle.p3_theory.specs.Lists.ByIndex.{to-tabulate}
use Rattle.p3_theory.specs.Polynomials.ScalarSums.{SameAfterFirst, scalar-sum, scalar-difference}
use Rattle.p3_theory.specs.Polynomials.BaseProduct.{base_product}
use Rattle.p3_extension.specs.Values.{constant, ext_ops, same_value}
use Rattle.p3_extension.specs.declared.extension.ext_field.ExtField.{ExtField}

-- r is x with the coefficient at index 0 changed to what the operator gives of it and c
abbrev pub OnFirstCoefficient : {A : Type 0} → ℕ → (A → A → A → Type 0) → List A → A → List A → Type 0
OnFirstCoefficient {A} D gives x c r = ((d : A) → gives (get_or x 0 d) c (get_or r 0 d)) × SameAfterFirst D x r

module _ {F S A : Type 0} (R : Ring A) (D : ℕ) (degree : 2 ≤ D) (f : List A) (gives : A → A → A → Type 0) where
  pub is_scalar_sum : ((a b c : A) → gives a b c → c ≡ R.add a b) → (x r : ExtField F D S A) (c : A) → OnFirstCoefficient D gives x.value c r.value
      → r ≡ (ext_ops R.ops f).add x (constant R.ops c)
  is_scalar_sum is x r c h =
      let some : 0 < D = omega arith in
      same_value r ((ext_ops R.ops f).add x (constant R.ops c)) (scalar-sum R D some x.value r.value c r.sized h.1 (is _ _ _ (h.0 R.zero)))

  pub is_scalar_difference : ((a b c : A) → gives a b c → c ≡ subtract R.ops a b) → (x r : ExtField F D S A) (c : A) → OnFirstCoefficient D gives x.value c r.value
      → r ≡ subtract (ext_ops R.ops f) x (constant R.ops c)
  is_scalar_difference is x r c h =
      let some : 0 < D = omega arith in
      same_value r (subtract (ext_ops R.ops f) x (constant R.ops c)) (scalar-difference R D some x.value r.value c r.sized h.1 (is _ _ _ (h.0 R.zero)))

  pub is_scalar_product : IsMonic R.ops D f → ((a b c : A) → gives a b c → c ≡ R.mul a b) → (x r : ExtField F D S A) (c : A)
      → ((d : A) (k : ℕ) → k < D → gives (get_or x.value k d) c (get_or r.value k d)) → r ≡ (ext_ops R.ops f).mul x (constant R.ops c)
  is_scalar_product m is x r c h =
      let some : 1 ≤ D = omega arith in
      same_value r ((ext_ops R.ops f).mul x (constant R.ops c))
      (to-tabulate R.zero D (λ k. R.mul (at R.ops x.value k) c) r.value r.sized (λ k w. is _ _ _ (h R.zero k w)) ∙ base_product R D some f m x.value c x.sized)

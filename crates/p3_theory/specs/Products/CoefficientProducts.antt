-- The product modulo X^D - w as the list of its coefficients, each a sum of products.
use Rattle.std.specs.Prelude.{◌≡◌, ◌≤◌, ◌<◌, ◌+◌, ◌-◌, ℕ, List, [], length, get_or, replicate, refl}
use Rattle.std.proofs.Common.{ap, ◌∙◌, sym}
use Rattle.std.proofs.lemmas.List.{get_or-replicate}
use Rattle.p3_theory.specs.Rings.Ring.{Ring}
use Rattle.p3_theory.specs.Polynomials.Polynomial.{at, tabulate, convolution, quotient_mul, quotient_add, binomial}
use Rattle.p3_theory.specs.Polynomials.ConvolutionSums.{first_sum}
use Rattle.p3_theory.specs.Products.ProductCoefficients.{product_coefficient, product_by_each_coefficient}
use Rattle.p3_theory.specs.Polynomials.Coefficients.{length-tabulate}
use Rattle.p3_theory.specs.Lists.ByIndex.{get-tabulate, to-tabulate, length-remainder}
use Rattle.p3_theory.specs.Rings.Basics.{add_from_zero, zero-add, zero-mul}

module _ {A : Type 0} (R : Ring A) where
  -- what is added to zeros stays as it is
  pub added_to_zeros : (D : ℕ) (old p : List A) → ((k : ℕ) → k < D → get_or old k R.zero ≡ R.zero) → length p ≡ D → quotient_add R.ops D old p ≡ p
  added_to_zeros D old p z l =
      sym (to-tabulate R.zero D (λ k. R.add (get_or old k R.zero) (get_or p k R.zero)) p l
      (λ k h. sym (add_from_zero R _ (get_or p k R.zero) (z k h))))

  pub product_onto_zeros : (D : ℕ) (f a b old out : List A) → old ≡ replicate D R.zero → out ≡ quotient_add R.ops D old (quotient_mul R.ops D f a b)
      → out ≡ quotient_mul R.ops D f a b
  product_onto_zeros D f a b old out z e =
      e ∙ added_to_zeros D old (quotient_mul R.ops D f a b)
      (λ k h. ap (λ l. get_or l k R.zero) z ∙ get_or-replicate D k R.zero R.zero h) (length-remainder R.ops D f (convolution R.ops a b))

  -- the coefficients are those of the product
  pub product_coefficients : (D : ℕ) → 1 ≤ D → (w : A) (a b : List A) → length a ≡ D → length b ≡ D
      → tabulate D (product_coefficient R.ops D w a b) ≡ quotient_mul R.ops D (binomial R.ops D w) a b
  product_coefficients D h w a b la lb =
      product_by_each_coefficient R D h w a b [] (tabulate D s) la lb (length-tabulate D s)
      (λ k lt. get-tabulate D s k R.zero lt ∙ sym (zero-add R (s k)))
      ∙ added_to_zeros D [] (quotient_mul R.ops D (binomial R.ops D w) a b) (λ k lt. refl) (length-remainder R.ops D (binomial R.ops D w) (convolution R.ops a b))
    where
      s : ℕ → A
      s = product_coefficient R.ops D w a b

  -- so is each of them
  pub coefficient_of_product : (D : ℕ) → 1 ≤ D → (w : A) (a b : List A) → length a ≡ D → length b ≡ D → (k : ℕ) → k < D
      → product_coefficient R.ops D w a b k ≡ at R.ops (quotient_mul R.ops D (binomial R.ops D w) a b) k
  coefficient_of_product D h w a b la lb k lt =
      sym (get-tabulate D (product_coefficient R.ops D w a b) k R.zero lt) ∙ ap (λ l. at R.ops l k) (product_coefficients D h w a b la lb)

  -- no product stands at X^D or above for the last coefficient
  pub top_coefficient : (D k : ℕ) → D - 1 - k ≡ 0 → (w low : A) (a b : List A)
      → low ≡ first_sum R.zero R.add (k + 1) (λ i. R.mul (get_or a (0 + i) R.zero) (get_or b (k - i) R.zero)) → low ≡ product_coefficient R.ops D w a b k
  top_coefficient D k none w low a b e =
      e ∙ sym (R.add_zero (first_sum R.zero R.add (k + 1) s)) ∙ ap (R.add (first_sum R.zero R.add (k + 1) s)) (sym nothing)
    where
      s : ℕ → A
      s i = R.mul (get_or a (0 + i) R.zero) (get_or b (k - i) R.zero)

      t : ℕ → A
      t i = R.mul (get_or a (k + 1 + i) R.zero) (get_or b (D - 1 - i) R.zero)

      nothing : R.mul (first_sum R.zero R.add (D - 1 - k) t) w ≡ R.zero
      nothing = ap (λ n. R.mul (first_sum R.zero R.add n t) w) none ∙ zero-mul R w

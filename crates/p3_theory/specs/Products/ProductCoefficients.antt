-- The product modulo X^D - w, index by index, as a loop writes it.
use Rattle.std.specs.Prelude.{◌≡◌, ◌<◌, ◌≤◌, ◌+◌, ◌-◌, ◌≢◌, ℕ, List, length, refl, get_or, replicate}
use Rattle.std.proofs.Common.{ap, ap₂, arith, ◌∙◌, sym, zero, suc}
use mathlib.Core.Path.{fun_ext}
use Rattle.std.proofs.Math.ListN.{set, length-set}
use Rattle.std.proofs.lemmas.List.{get_or-replicate, length-replicate, ext_get_or}
use Rattle.p3_theory.specs.Rings.Ring.{Ops, Ring}
use Rattle.p3_theory.specs.Rings.Basics.{add_from_zero}
use Rattle.p3_theory.specs.Polynomials.Polynomial as P
use Rattle.p3_theory.specs.Polynomials.Polynomial.{at}
use Rattle.p3_theory.specs.Polynomials.Coefficients as F
use Rattle.p3_theory.specs.Polynomials.ConvolutionSums as L
use Rattle.p3_theory.specs.Polynomials.ConvolutionSums.{first_sum}
use Rattle.p3_theory.specs.Products.BinomialProduct.{fold, binomial_product}
use Rattle.p3_theory.specs.Lists.ByIndex.{get-tabulate, to-tabulate, length-remainder}
use Rattle.p3_theory.specs.Lists.TabulatedEntries.{updated-more}

module _ {A : Type 0} where
  -- product_coefficient k of the product
  abbrev pub product_coefficient : Ops A → ℕ → A → List A → List A → ℕ → A
  product_coefficient o D w a b k =
      o.add (first_sum o.zero o.add (k + 1) (λ i. o.mul (get_or a (0 + i) o.zero) (get_or b (k - i) o.zero)))
      (o.mul (first_sum o.zero o.add (D - 1 - k) (λ i. o.mul (get_or a (k + 1 + i) o.zero) (get_or b (D - 1 - i) o.zero))) w)

  module _ (R : Ring A) where
    product_coefficient-fold : (d : ℕ) (w : A) (a b : List A) → length a ≡ suc d → length b ≡ suc d → (k : ℕ) → k < suc d
        → product_coefficient R.ops (suc d) w a b k ≡ fold R (suc d) w (P.convolve R.ops (at R.ops a) (at R.ops b)) k
    product_coefficient-fold d w a b la lb k h = ap₂ R.add
        (ap₂ (λ n s. first_sum R.zero R.add n s) one (fun_ext (λ i. ap (λ j. R.mul (at R.ops a j) (at R.ops b (k - i))) (plain i)))
        ∙ L.low R k (at R.ops a) (at R.ops b))
        (R.mul_comm _ w ∙ ap (R.mul w)
        (ap₂ (λ n s. first_sum R.zero R.add n s) less (fun_ext (λ i. ap (λ j. R.mul (at R.ops a (k + 1 + i)) (at R.ops b (j - i))) last))
        ∙ L.high R d k (at R.ops a) (at R.ops b) (ends a la) (ends b lb) h))
      where
        one : k + 1 ≡ suc k
        one = omega arith

        plain : (i : ℕ) → 0 + i ≡ i
        plain i = omega arith

        last : suc d - 1 ≡ d
        last = omega arith

        less : suc d - 1 - k ≡ d - k
        less = omega arith

        ends : (xs : List A) → length xs ≡ suc d → F.Ends R (suc d) (at R.ops xs)
        ends xs l k le = F.at-ends R xs k (rw l le)

    pub product_by_each_coefficient : (D : ℕ) → 1 ≤ D → (w : A) (a b old out : List A) → length a ≡ D → length b ≡ D → length out ≡ D
        → ((k : ℕ) → k < D → get_or out k R.zero ≡ R.add (get_or old k R.zero) (product_coefficient R.ops D w a b k))
        → out ≡ P.quotient_add R.ops D old (P.quotient_mul R.ops D (P.binomial R.ops D w) a b)
    product_by_each_coefficient zero h w a b old out la lb lo p = absurd (omega arith)
    product_by_each_coefficient (suc d) h w a b old out la lb lo p = to-tabulate R.zero (suc d) _ out lo (λ k lt. p k lt
        ∙ ap (R.add (get_or old k R.zero)) (product_coefficient-fold d w a b la lb k lt
        ∙ sym (get-tabulate (suc d) (fold R (suc d) w (P.convolve R.ops (at R.ops a) (at R.ops b))) k R.zero lt)
        ∙ ap (λ l. get_or l k R.zero) (sym (binomial_product R d w a b la lb))))

    -- one more product_coefficient of the loop
    pub entry_more : (f : ℕ → A) (old out : List A) (i n : ℕ) (v : A) → length out ≡ n → i < n
        → ((k : ℕ) → k < i → get_or out k R.zero ≡ R.add (get_or old k R.zero) (f k))
        → ((k : ℕ) → i ≤ k → get_or out k R.zero ≡ get_or old k R.zero)
        → v ≡ R.add (get_or old i R.zero) (f i)
        → (length (set out i v) ≡ n) × ((k : ℕ) → k < i + 1 → get_or (set out i v) k R.zero ≡ R.add (get_or old k R.zero) (f k))
        × ((k : ℕ) → i + 1 ≤ k → get_or (set out i v) k R.zero ≡ get_or old k R.zero)
    entry_more f old out i n v l b p q e =
        let more = updated-more (λ k. R.add (get_or old k R.zero) (f k)) R.zero old out i v (omega (arith, l, b)) (p, q) e in
        (simp length-set l, more.0, more.1)

    added_to_zeros : (D : ℕ) (old out p : List A) → old ≡ replicate D R.zero → length p ≡ D → out ≡ P.quotient_add R.ops D old p → out ≡ p
    added_to_zeros D old out p z l e = e ∙ ap (λ o. P.quotient_add R.ops D o p) z
        ∙ sym (to-tabulate R.zero D _ p l (λ k h. sym (add_from_zero R _ _ (get_or-replicate D k R.zero R.zero h))))

    pub from_zeros : (D : ℕ) (f a b old out : List A) → old ≡ replicate D R.zero
        → (D ≡ 2 → out ≡ P.quotient_mul R.ops D f a b) → (D ≢ 2 → out ≡ P.quotient_add R.ops D old (P.quotient_mul R.ops D f a b)) → out ≡ P.quotient_mul R.ops D f a b
    from_zeros zero f a b old out z p q = added_to_zeros 0 old out _ z (length-remainder R.ops 0 f _) (q (λ e. omega (arith, e)))
    from_zeros (suc zero) f a b old out z p q = added_to_zeros 1 old out _ z (length-remainder R.ops 1 f _) (q (λ e. omega (arith, e)))
    from_zeros (suc (suc zero)) f a b old out z p q = p refl
    from_zeros (suc (suc (suc n))) f a b old out z p q = added_to_zeros (suc (suc (suc n))) old out _ z (length-remainder R.ops (suc (suc (suc n))) f _) (q (λ e. omega (arith, e)))

-- a list with zero at each of its indices
pub all_zero : {A : Type 0} (D : ℕ) (xs : List A) (z : A) → length xs ≡ D → ((k : ℕ) → k < D → get_or xs k z ≡ z) → xs ≡ replicate D z
all_zero D xs z l h = ext_get_or z xs (replicate D z) (l ∙ sym (length-replicate D z))
    (λ k w. h k (omega (arith, l)) ∙ sym (get_or-replicate D k z z (omega (arith, l))))

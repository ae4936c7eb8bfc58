-- Coefficients of a product modulo X^D - w, each the dot product of one list and a row that is shifted.
use Rattle.std.proofs.Common.{◌≡◌, ◌<◌, ◌≤◌, ◌+◌, ◌-◌, ℕ, zero, suc, List, [], ◌∷◌, length, get_or, take, drop, reverse, refl, sym, ap, ap₂, ◌∙◌, arith}
use Rattle.std.proofs.lemmas.List.{ext_get_or, get_or-take, get_or-drop, get_or-reverse, length-take-le, length-drop}
use Rattle.p3_theory.specs.Rings.Ring.{Ops, RingLaws, ring_of}
use Rattle.p3_theory.specs.Rings.Powers.{sum_of}
use Rattle.p3_theory.specs.Rings.DotProduct.{dot, dot-chunk}
use Rattle.p3_theory.specs.Lists.ByIndex.{get-tabulate}
use Rattle.p3_theory.specs.Polynomials.BaseProduct.{scaled}
use Rattle.p3_theory.specs.Polynomials.Coefficients.{length-tabulate}
use Rattle.p3_theory.specs.Polynomials.ConvolutionSums.{first_sum, first-sum}
use Rattle.p3_theory.specs.Rings.Basics.{add-mul, zero-mul}
use Rattle.p3_theory.specs.Products.ProductCoefficients.{product_coefficient}

module _ {A : Type 0} (o : Ops A) where
  -- the first k coefficients from the last of them to the first, and behind them those from the last one down, times w
  abbrev pub IsRow : ℕ → A → List A → ℕ → List A → Type 0
  IsRow D w b k row =
      (length row ≡ D)
      × ((i : ℕ) → i < k → get_or row i o.zero ≡ get_or b (k - 1 - i) o.zero)
      × ((i : ℕ) → k ≤ i → i < D → get_or row i o.zero ≡ o.mul (get_or b (D - 1 + k - i) o.zero) w)

  pub row-begin : (D : ℕ) (w : A) (b row : List A) → length b ≡ D → row ≡ scaled o (length b) (reverse b) w → IsRow D w b 0 row
  row-begin D w b row lb e = (
    ap length e ∙ length-tabulate (length b) _ ∙ lb,
    λ i h. absurd (omega (arith, h)),
    λ i h lt. ap (λ l. get_or l i o.zero) e ∙ get-tabulate (length b) _ i o.zero (omega (arith, lt, lb))
        ∙ ap (λ v. o.mul v w) (get_or-reverse b i o.zero (omega (arith, lt, lb)) ∙ ap (λ j. get_or b j o.zero) (omega (arith, lt, lb))),
  )

  module _ (D : ℕ) (w : A) (b : List A) (k : ℕ) (row next : List A) (x : A) (h : k < D) (r : IsRow D w b k row) (f : x ≡ get_or b k o.zero) (e : next ≡ take (length row) (x ∷ row)) where
    read : (i : ℕ) → i < D → get_or next i o.zero ≡ get_or (x ∷ row) i o.zero
    read i lt = ap (λ l. get_or l i o.zero) e ∙ get_or-take (length row) (x ∷ row) i o.zero (omega (arith, lt, r.0))

    near : (i : ℕ) → i < k + 1 → get_or (x ∷ row) i o.zero ≡ get_or b (k + 1 - 1 - i) o.zero
    near zero lt = f ∙ ap (λ j. get_or b j o.zero) (omega arith)
    near (suc i) lt = r.1 i (omega (arith, lt)) ∙ ap (λ j. get_or b j o.zero) (omega (arith, lt))

    far : (i : ℕ) → k + 1 ≤ i → i < D → get_or (x ∷ row) i o.zero ≡ o.mul (get_or b (D - 1 + (k + 1) - i) o.zero) w
    far zero le lt = absurd (omega (arith, le))
    far (suc i) le lt = r.2 i (omega (arith, le)) (omega (arith, lt)) ∙ ap (λ j. o.mul (get_or b j o.zero) w) (omega (arith, le, lt))

    -- the next coefficient is shifted in
    pub row-next : IsRow D w b (k + 1) next
    row-next = (
      ap length e ∙ length-take-le (length row) (x ∷ row) (omega arith) ∙ r.0,
      λ i lt. read i (omega (arith, lt, h)) ∙ near i lt,
      λ i le lt. read i lt ∙ far i le lt,
    )

  module _ (l : RingLaws o) where
    -- a dot product of lists of n items, by what stands at each index
    dot-sum : (n : ℕ) (xs ys : List A) (f : ℕ → A) → length xs ≡ n → length ys ≡ n
        → ((i : ℕ) → i < n → o.mul (get_or xs i o.zero) (get_or ys i o.zero) ≡ f i)
        → dot o xs ys ≡ sum_of o n f
    dot-sum zero [] ys f h k p = refl
    dot-sum zero (x ∷ xs) ys f h k p = absurd (omega (arith, h))
    dot-sum (suc n) [] ys f h k p = absurd (omega (arith, h))
    dot-sum (suc n) (x ∷ xs) [] f h k p = absurd (omega (arith, k))
    dot-sum (suc n) (x ∷ xs) (y ∷ ys) f h k p =
        let lx : length xs ≡ n = omega (arith, h) in
        let ly : length ys ≡ n = omega (arith, k) in
        ap₂ o.add (p 0 (omega arith)) (dot-sum n xs ys (λ i. f (suc i)) lx ly (λ i lt. p (suc i) (omega (arith, lt))))

    -- the same as the sum that a loop makes
    dot-first_sum : (n : ℕ) (xs ys : List A) (f : ℕ → A) → length xs ≡ n → length ys ≡ n
        → ((i : ℕ) → i < n → o.mul (get_or xs i o.zero) (get_or ys i o.zero) ≡ f i)
        → dot o xs ys ≡ first_sum o.zero o.add n f
    dot-first_sum n xs ys f h k p = dot-sum n xs ys f h k p ∙ sym (first-sum (ring_of l) n f)

    first_sum-times : (n : ℕ) (s : ℕ → A) (w : A) → first_sum o.zero o.add n (λ i. o.mul (s i) w) ≡ o.mul (first_sum o.zero o.add n s) w
    first_sum-times zero s w = sym (zero-mul (ring_of l) w)
    first_sum-times (suc n) s w = ap (λ v. o.add v (o.mul (s n) w)) (first_sum-times n s w)
        ∙ sym (add-mul (ring_of l) _ (s n) w)

    module _ (D : ℕ) (w : A) (a b : List A) (k : ℕ) (row : List A) (h : k < D) (la : length a ≡ D) (r : IsRow D w b (k + 1) row) where
      abbrev left : ℕ → A
      left i = o.mul (get_or a (0 + i) o.zero) (get_or b (k - i) o.zero)

      abbrev right : ℕ → A
      right i = o.mul (get_or a (k + 1 + i) o.zero) (get_or b (D - 1 - i) o.zero)

      low : dot o (take (k + 1) a) (take (k + 1) row) ≡ first_sum o.zero o.add (k + 1) left
      low = dot-first_sum (k + 1) (take (k + 1) a) (take (k + 1) row) left (length-take-le (k + 1) a (omega (arith, h, la))) (length-take-le (k + 1) row (omega (arith, h, r.0)))
          (λ i lt. ap₂ o.mul (get_or-take (k + 1) a i o.zero lt ∙ ap (λ j. get_or a j o.zero) (plain i)) (get_or-take (k + 1) row i o.zero lt ∙ r.1 i lt ∙ ap (λ j. get_or b j o.zero) (less i)))
        where
          plain : (i : ℕ) → i ≡ 0 + i
          plain i = omega arith

          less : (i : ℕ) → k + 1 - 1 - i ≡ k - i
          less i = omega arith

      high : dot o (drop (k + 1) a) (drop (k + 1) row) ≡ o.mul (first_sum o.zero o.add (D - 1 - k) right) w
      high = dot-first_sum (D - 1 - k) (drop (k + 1) a) (drop (k + 1) row) (λ i. o.mul (right i) w) (length-drop (k + 1) a ∙ omega (arith, h, la)) (length-drop (k + 1) row ∙ omega (arith, h, r.0))
          (λ i lt. ap₂ o.mul (get_or-drop (k + 1) a i o.zero) (get_or-drop (k + 1) row i o.zero ∙ r.2 (k + 1 + i) (omega arith) (omega (arith, lt)) ∙ ap (λ j. o.mul (get_or b j o.zero) w) (back i lt)) ∙ sym (l.mul_assoc _ _ w))
          ∙ first_sum-times (D - 1 - k) right w
        where
          back : (i : ℕ) → i < D - 1 - k → D - 1 + (k + 1) - (k + 1 + i) ≡ D - 1 - i
          back i lt = omega (arith, lt)

      -- the dot product with the row after coefficient k is that of X^k
      pub row-coefficient : (s : A) → s ≡ dot o a row → s ≡ product_coefficient o D w a b k
      row-coefficient s e = e ∙ dot-chunk l a row 0 (k + 1) (la ∙ sym r.0)
          ∙ ap₂ o.add low (ap (λ j. dot o (drop j a) (drop j row)) plain ∙ high)
        where
          plain : 0 + (k + 1) ≡ k + 1
          plain = omega arith

-- a list that holds what stands at the first n indices of another
pub taken : {A : Type 0} (d : A) (n : ℕ) (xs ys : List A) → length xs ≡ n → n ≤ length ys → ((i : ℕ) → i < n → get_or xs i d ≡ get_or ys i d) → xs ≡ take n ys
taken d n xs ys l le h = ext_get_or d xs (take n ys) (l ∙ sym (length-take-le n ys le))
    (λ i lt. let below : i < n = omega (arith, lt, l) in h i below ∙ sym (get_or-take n ys i d below))

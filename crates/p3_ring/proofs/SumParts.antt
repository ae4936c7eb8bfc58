-- Sums of short lists, and of a list in parts.
use Rattle.std.proofs.Common.{◌≡◌, ◌+◌, ℕ, List, [], ◌∷◌, length, get_or, drop, take, sym, ap, ap₂, ◌∙◌, arith}
use Rattle.std.proofs.lemmas.List.{take_rest}
use Rattle.p3_theory.specs.Rings.Ring.{Ops, RingLaws}
use Rattle.p3_theory.specs.Rings.Operators.{sum_list}
use Rattle.p3_theory.specs.Rings.DotProduct.{sum-chunk}
use Rattle.p3_theory.specs.Rings.MixedDotProduct.{from}

module _ {A : Type 0} {O : Ops A} (l : RingLaws O) where
  -- of no item
  pub sum_of_none : (xs : List A) (s : A) → length xs ≡ 0 → s ≡ O.zero → s ≡ sum_list O xs
  sum_of_none [] s n h = h
  sum_of_none (x ∷ xs) s n h = absurd (omega (arith, n))

  -- of one item
  pub sum_of_one : (xs : List A) (x : A) → length xs ≡ 1 → x ≡ get_or xs 0 x → x ≡ sum_list O xs
  sum_of_one [] x n h = absurd (omega (arith, n))
  sum_of_one (y ∷ []) x n h = h ∙ sym (l.add_zero y)
  sum_of_one (y ∷ z ∷ ys) x n h = absurd (omega (arith, n))

  -- of two items
  pub sum_of_two : (xs : List A) (x y s : A) → length xs ≡ 2 → x ≡ get_or xs 0 x → y ≡ get_or xs 1 y → s ≡ O.add x y → s ≡ sum_list O xs
  sum_of_two [] x y s n h k m = absurd (omega (arith, n))
  sum_of_two (a ∷ []) x y s n h k m = absurd (omega (arith, n))
  sum_of_two (a ∷ b ∷ []) x y s n h k m = m ∙ ap₂ O.add h (k ∙ sym (l.add_zero b))
  sum_of_two (a ∷ b ∷ c ∷ xs) x y s n h k m = absurd (omega (arith, n))

  -- after the first n items
  pub sum_first : (xs : List A) (n : ℕ) (s : A) → s ≡ sum_list O (take n xs) → O.add s (sum_list O (drop n xs)) ≡ sum_list O xs
  sum_first xs n s h =
      let none : 0 + n ≡ n = omega arith in
      ap (λ z. O.add z (sum_list O (drop n xs))) h ∙ sym (sum-chunk l xs 0 n ∙ ap (λ i. O.add (sum_list O (take n xs)) (sum_list O (drop i xs))) none)

  -- with the rest added at once
  pub sum_rest : (xs : List A) (i : ℕ) (s t r : A) → t ≡ O.add s (sum_list O (from i xs)) → O.add s (sum_list O (drop i xs)) ≡ r → t ≡ r
  sum_rest xs i s t r h k = h ∙ ap (λ ys. O.add s (sum_list O ys)) (take_rest xs i) ∙ k

  -- of the first n items and of the others
  pub sum_split : (xs : List A) (n : ℕ) (low high s : A) → low ≡ sum_list O (take n xs) → high ≡ sum_list O (from n xs) → s ≡ O.add low high → s ≡ sum_list O xs
  sum_split xs n low high s h k m = sum_rest xs n low s (sum_list O xs) (m ∙ ap (O.add low) k) (sum_first xs n low h)

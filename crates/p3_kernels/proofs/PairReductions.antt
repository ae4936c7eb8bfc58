-- The lanes of reductions of numbers of 64 bits, from those of each step.
use Rattle.std.proofs.Common.{get_or, ◌≡◌, ℕ, ◌+◌, ◌-◌, ◌*◌, ◌/◌, ◌%◌, ◌^◌, ◌<◌, List, arith, ◌∙◌, ap, refl}
use Rattle.std.proofs.lemmas.Nat.{mul-mod_first}
use Rattle.p3_kernels.proofs.HalfLanes.{even_high, highs_below, odd_high}
use Rattle.p3_kernels.proofs.Reductions.{end_below, end_fits, high_below, high_of_sum, number_fits, positive, reduced, sum_reduced}
use Rattle.p3_kernels.specs.Pairs.{multiple}
use Rattle.p3_kernels.specs.Words.{AreBelow}

-- the high words of xs and of ys, in turn, are the words
abbrev pub AreHighs : ℕ → List ℕ → List ℕ → List ℕ → List ℕ → Type 0
AreHighs h xs ys pairs words =
    ((k : ℕ) → k < h → get_or pairs k 0 ≡ get_or xs k 0 / 2 ^ 32 + 2 ^ 32 * (get_or ys k 0 / 2 ^ 32))
    × ((k : ℕ) → k < h → get_or words (2 * k) 0 ≡ get_or pairs k 0 % 2 ^ 32)
    × ((k : ℕ) → k < h → get_or words (2 * k + 1) 0 ≡ get_or pairs k 0 / 2 ^ 32)

module _ (h : ℕ) (xs ys pairs words : List ℕ) (highs : AreHighs h xs ys pairs words) (e o : ℕ → ℕ)
    (ex : (k : ℕ) → k < h → get_or xs k 0 ≡ e k) (oy : (k : ℕ) → k < h → get_or ys k 0 ≡ o k) (fits : (k : ℕ) → k < h → e k < 2 ^ 64) where
  are : (k : ℕ) → k < h → get_or pairs k 0 ≡ e k / 2 ^ 32 + 2 ^ 32 * (o k / 2 ^ 32)
  are k l = highs.0 k l ∙ (λ ι. ex k l ι / 2 ^ 32 + 2 ^ 32 * (oy k l ι / 2 ^ 32))

  even_is : (k : ℕ) → k < h → get_or words (2 * k) 0 ≡ e k / 2 ^ 32
  even_is = even_high h pairs words e o are highs.1 highs.2 fits

  odd_is : (k : ℕ) → k < h → get_or words (2 * k + 1) 0 ≡ o k / 2 ^ 32
  odd_is = odd_high h pairs words e o are highs.1 highs.2 fits

  each_below : (b : ℕ) → ((k : ℕ) → k < h → e k / 2 ^ 32 < b) → ((k : ℕ) → k < h → o k / 2 ^ 32 < b) → AreBelow (2 * h) b words
  each_below = highs_below h pairs words e o are highs.1 highs.2 fits

-- of numbers below 2^32 times p: xs and ys are the numbers with their multiples
module _ (h p j : ℕ) (es os xs ys pairs sums : List ℕ) (small : p < 2 ^ 31) (be : AreBelow h (p * 2 ^ 32) es) (bo : AreBelow h (p * 2 ^ 32) os)
    (ex : (k : ℕ) → k < h → get_or xs k 0 ≡ get_or es k 0 + multiple p j (get_or es k 0))
    (oy : (k : ℕ) → k < h → get_or ys k 0 ≡ get_or os k 0 + multiple p j (get_or os k 0))
    (highs : AreHighs h xs ys pairs sums) where
  abbrev e : ℕ → ℕ
  e k = get_or es k 0 + multiple p j (get_or es k 0)

  abbrev o : ℕ → ℕ
  o k = get_or os k 0 + multiple p j (get_or os k 0)

  e_fits : (k : ℕ) → k < h → e k < 2 ^ 64
  e_fits k l = number_fits p j (get_or es k 0) small (be k l)

  pub sums_below : AreBelow (2 * h) (p + p) sums
  sums_below = each_below h xs ys pairs sums highs e o ex oy e_fits (p + p) (λ k l. high_below p j (get_or es k 0) (be k l)) (λ k l. high_below p j (get_or os k 0) (bo k l))

  one_reduced : (s w t : ℕ) → (1 + p * j) % 2 ^ 32 ≡ 0 → s ≡ (w + multiple p j w) / 2 ^ 32 → t ≡ s % p → (t * 2 ^ 32) % p ≡ w % p
  one_reduced s w t m a b = ap (λ z. (z * 2 ^ 32) % p) (b ∙ ap (λ z. z % p) a) ∙ mul-mod_first ((w + multiple p j w) / 2 ^ 32) (2 ^ 32) p ∙ reduced p j w m

  module _ (minus_one : (1 + p * j) % 2 ^ 32 ≡ 0) (ts : List ℕ) (are_reduced : (k : ℕ) → k < 2 * h → get_or ts k 0 ≡ get_or sums k 0 % p) where
    pub even_reduced : (k : ℕ) → k < h → (get_or ts (2 * k) 0 * 2 ^ 32) % p ≡ get_or es k 0 % p
    even_reduced k l =
        one_reduced (get_or sums (2 * k) 0) (get_or es k 0) (get_or ts (2 * k) 0) minus_one (even_is h xs ys pairs sums highs e o ex oy e_fits k l) (are_reduced (2 * k) (omega arith))

    pub odd_reduced : (k : ℕ) → k < h → (get_or ts (2 * k + 1) 0 * 2 ^ 32) % p ≡ get_or os k 0 % p
    odd_reduced k l =
        one_reduced (get_or sums (2 * k + 1) 0) (get_or os k 0) (get_or ts (2 * k + 1) 0) minus_one (odd_is h xs ys pairs sums highs e o ex oy e_fits k l) (are_reduced (2 * k + 1) (omega arith))

-- of numbers below 2^33 times p
module _ (h p i : ℕ) (es os pairs sums : List ℕ) (fits : (k : ℕ) → get_or es k 0 < 2 ^ 64) (highs : AreHighs h es os pairs sums) where
  pub short_sums_below : AreBelow h (2 ^ 33 * p) es → AreBelow h (2 ^ 33 * p) os → AreBelow (2 * h) (p + p) sums
  short_sums_below be bo =
      each_below h es os pairs sums highs (λ k. get_or es k 0) (λ k. get_or os k 0) (λ _ _. refl) (λ _ _. refl) (λ k _. fits k) (p + p)
      (λ k l. high_of_sum p (get_or es k 0) (be k l)) (λ k l. high_of_sum p (get_or os k 0) (bo k l))

  -- ms and ns are the multiples, and what stands above 32 bits of them are the words `ends`
  module _ (small : p < 2 ^ 31) (inverse : (p * i) % 2 ^ 32 ≡ 1) (ms ns lows ends : List ℕ)
      (em : (k : ℕ) → k < h → get_or ms k 0 ≡ multiple p i (get_or es k 0))
      (en : (k : ℕ) → k < h → get_or ns k 0 ≡ multiple p i (get_or os k 0))
      (low_highs : AreHighs h ms ns lows ends) where
    some : 0 < p
    some = positive p i inverse

    m_fits : (k : ℕ) → k < h → multiple p i (get_or es k 0) < 2 ^ 64
    m_fits k l = end_fits p i inverse some (get_or es k 0) small

    pub ends_below : AreBelow (2 * h) p ends
    ends_below =
        each_below h ms ns lows ends low_highs (λ k. multiple p i (get_or es k 0)) (λ k. multiple p i (get_or os k 0)) em en m_fits p
        (λ k l. end_below p i inverse some (get_or es k 0)) (λ k l. end_below p i inverse some (get_or os k 0))

    module _ (rs ts : List ℕ) (are_reduced : (k : ℕ) → k < 2 * h → get_or rs k 0 ≡ get_or sums k 0 % p)
        (differences : (k : ℕ) → k < 2 * h → get_or ts k 0 ≡ (get_or rs k 0 + (p - get_or ends k 0)) % p) where
      pub even_sum_reduced : (k : ℕ) → k < h → (get_or ts (2 * k) 0 * 2 ^ 32) % p ≡ get_or es k 0 % p
      even_sum_reduced k l =
          let inside : 2 * k < 2 * h = omega (arith, l) in
          let high = are_reduced (2 * k) inside ∙ ap (λ z. z % p) (even_is h es os pairs sums highs (λ k. get_or es k 0) (λ k. get_or os k 0) (λ _ _. refl) (λ _ _. refl) (λ k _. fits k) k l) in
          let low = even_is h ms ns lows ends low_highs (λ k. multiple p i (get_or es k 0)) (λ k. multiple p i (get_or os k 0)) em en m_fits k l in
          sum_reduced p i inverse some (get_or es k 0) (get_or ts (2 * k) 0) (differences (2 * k) inside ∙ (λ ι. (high ι + (p - low ι)) % p))

      pub odd_sum_reduced : (k : ℕ) → k < h → (get_or ts (2 * k + 1) 0 * 2 ^ 32) % p ≡ get_or os k 0 % p
      odd_sum_reduced k l =
          let inside : 2 * k + 1 < 2 * h = omega (arith, l) in
          let high = are_reduced (2 * k + 1) inside ∙ ap (λ z. z % p) (odd_is h es os pairs sums highs (λ k. get_or es k 0) (λ k. get_or os k 0) (λ _ _. refl) (λ _ _. refl) (λ k _. fits k) k l) in
          let low = odd_is h ms ns lows ends low_highs (λ k. multiple p i (get_or es k 0)) (λ k. multiple p i (get_or os k 0)) em en m_fits k l in
          sum_reduced p i inverse some (get_or os k 0) (get_or ts (2 * k + 1) 0) (differences (2 * k + 1) inside ∙ (λ ι. (high ι + (p - low ι)) % p))

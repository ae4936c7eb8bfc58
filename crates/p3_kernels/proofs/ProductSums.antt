-- Sums of products of words on four lanes.
use Rattle.std.proofs.Common.{get_or, ◌≡◌, ℕ, ◌+◌, ◌-◌, ◌*◌, ◌/◌, ◌%◌, ◌^◌, ◌<◌, ◌≤◌, List, [], ◌∷◌, length, zero, suc, arith, ◌∙◌, ap, refl}
use Rattle.std.proofs.Math.Nat.{mod-lt, mul-le-mul}
use Rattle.p3_kernels.proofs.LongLanes.{plus, sum_lane}
use Rattle.p3_kernels.proofs.StoredBlocks.{block-products}
use Rattle.p3_kernels.specs.Words.{AreBelow, block_at, product_at}
use Rattle.p3_kernels.specs.ProductSums.{AreWordSums, sum_of_lanes, total}
use Rattle.p3_theory.specs.ResidueRings.SumsOfProducts.{sum_of_products}
use lib.Lanes.{zip2}

-- the sum of the first n numbers
abbrev sum_up : ℕ → (ℕ → ℕ) → ℕ
sum_up zero number = 0
sum_up (suc n) number = number 0 + sum_up n (λ k. number (suc k))

-- a sum of products, index by index
products_sum : (n : ℕ) (xs ys : List ℕ) → length xs ≡ n → length ys ≡ n → sum_of_products (λ z. z) xs ys ≡ sum_up n (product_at xs ys)
products_sum zero [] ys a b = refl
products_sum zero (x ∷ xs) ys a b = absurd (omega (arith, a))
products_sum (suc n) [] ys a b = absurd (omega (arith, a))
products_sum (suc n) (x ∷ xs) [] a b = absurd (omega (arith, b))
products_sum (suc n) (x ∷ xs) (y ∷ ys) a b = ap (λ s. x * y + s) (products_sum n xs ys (omega (arith, a)) (omega (arith, b)))

-- sixteen words and sixteen others, with their products in lanes: of each half those of even and those of odd indices
module _ (us vs p q r s : List ℕ)
    (ep : (k : ℕ) → k < 4 → get_or p k 0 ≡ product_at (block_at 0 8 us) (block_at 0 8 vs) (2 * k))
    (oq : (k : ℕ) → k < 4 → get_or q k 0 ≡ product_at (block_at 0 8 us) (block_at 0 8 vs) (2 * k + 1))
    (er : (k : ℕ) → k < 4 → get_or r k 0 ≡ product_at (block_at 8 8 us) (block_at 8 8 vs) (2 * k))
    (os : (k : ℕ) → k < 4 → get_or s k 0 ≡ product_at (block_at 8 8 us) (block_at 8 8 vs) (2 * k + 1)) where
  p_is : (k : ℕ) → k < 4 → get_or p k 0 ≡ product_at us vs (0 + 2 * k)
  p_is k l = ep k l ∙ block-products 0 8 us vs (2 * k) (omega (arith, l))

  q_is : (k : ℕ) → k < 4 → get_or q k 0 ≡ product_at us vs (0 + (2 * k + 1))
  q_is k l = oq k l ∙ block-products 0 8 us vs (2 * k + 1) (omega (arith, l))

  r_is : (k : ℕ) → k < 4 → get_or r k 0 ≡ product_at us vs (8 + 2 * k)
  r_is k l = er k l ∙ block-products 8 8 us vs (2 * k) (omega (arith, l))

  s_is : (k : ℕ) → k < 4 → get_or s k 0 ≡ product_at us vs (8 + (2 * k + 1))
  s_is k l = os k l ∙ block-products 8 8 us vs (2 * k + 1) (omega (arith, l))

  -- the products have 62 bits
  module _ (a : AreBelow 16 (2 ^ 31) us) (b : AreBelow 16 (2 ^ 31) vs) where
    product_short : (k : ℕ) → k < 16 → product_at us vs k < 2 ^ 62
    product_short k l =
        let u = a k l in
        let v = b k l in
        let most = mul-le-mul (let f : get_or us k 0 ≤ 2147483647 = omega (arith, u) in f) (let g : get_or vs k 0 ≤ 2147483647 = omega (arith, v) in g) in
        omega (arith, most)

    pub products_short : AreBelow 4 (2 ^ 62) p × AreBelow 4 (2 ^ 62) q × AreBelow 4 (2 ^ 62) r × AreBelow 4 (2 ^ 62) s
    products_short = (
      λ k l. rw (p_is k l) (product_short (0 + 2 * k) (omega (arith, l))),
      λ k l. rw (q_is k l) (product_short (0 + (2 * k + 1)) (omega (arith, l))),
      λ k l. rw (r_is k l) (product_short (8 + 2 * k) (omega (arith, l))),
      λ k l. rw (s_is k l) (product_short (8 + (2 * k + 1)) (omega (arith, l))),
    )

  module _ (sums : List ℕ) (are : (k : ℕ) → k < 4 → get_or sums k 0 ≡ get_or p k 0 + get_or q k 0 + (get_or r k 0 + get_or s k 0)) where
    -- sums of four of them have 64
    pub sums_short : AreBelow 16 (2 ^ 31) us → AreBelow 16 (2 ^ 31) vs → AreBelow 4 (2 ^ 64) sums
    sums_short a b k l =
        let short = products_short a b in
        omega (arith, short.0 k l, short.1 k l, short.2 k l, short.3 k l, are k l)

    sums_are : (k : ℕ) → k < 4 → get_or sums k 0 ≡ product_at us vs (0 + 2 * k) + product_at us vs (0 + (2 * k + 1)) + (product_at us vs (8 + 2 * k) + product_at us vs (8 + (2 * k + 1)))
    sums_are k l = are k l ∙ (λ ι. p_is k l ι + q_is k l ι + (r_is k l ι + s_is k l ι))

    -- and they come to the sum of all products
    pub products_in_lanes : length us ≡ 16 → length vs ≡ 16 → sum_of_lanes sums ≡ sum_of_products (λ z. z) us vs
    products_in_lanes a b =
        let first = sums_are 0 (omega arith) in
        let second = sums_are 1 (omega arith) in
        let third = sums_are 2 (omega arith) in
        let fourth = sums_are 3 (omega arith) in
        omega (arith, products_sum 16 us vs a b, first, second, third, fourth)

-- the low and the high words of numbers of 64 bits
pub low_fits : (h : ℕ) (numbers : List ℕ) (k : ℕ) → k < h → get_or numbers k 0 % 2 ^ 32 < 2 ^ 32
low_fits h numbers k l = mod-lt (get_or numbers k 0) (omega arith)

pub high_fits : (h : ℕ) (numbers : List ℕ) → ((k : ℕ) → get_or numbers k 0 < 2 ^ 64) → (k : ℕ) → k < h → get_or numbers k 0 / 2 ^ 32 < 2 ^ 32
high_fits h numbers short k l = let f = short k in omega (arith, f)

-- words that are added to sums of fewer than 2^32 words, lane by lane
module _ (h : ℕ) (lanes words : List ℕ) (a : length lanes ≡ h) (b : length words ≡ h) (room : AreWordSums h (2 ^ 32 - 1) lanes)
    (word : ℕ → ℕ) (is : (k : ℕ) → k < h → get_or words k 0 ≡ word k) (short : (k : ℕ) → k < h → word k < 2 ^ 32) where
  pub added : (k : ℕ) → k < h → get_or (zip2 plus lanes words) k 0 ≡ get_or lanes k 0 + word k
  added k l =
      let most = room k l in
      let w = short k l in
      sum_lane h lanes words a b k l (word k) (is k l) (omega (arith, most, w))

  pub added_step : (n : ℕ) → AreWordSums h n lanes → AreWordSums h (n + 1) (zip2 plus lanes words)
  added_step n held k l =
      let e = added k l in
      let most = held k l in
      let w = short k l in
      omega (arith, e, most, w)

-- four lanes to which words were added
pub sum_added : (lanes sums : List ℕ) (word : ℕ → ℕ) → ((k : ℕ) → k < 4 → get_or sums k 0 ≡ get_or lanes k 0 + word k)
    → sum_of_lanes sums ≡ sum_of_lanes lanes + (word 0 + word 1 + word 2 + word 3)
sum_added lanes sums word added =
    let first = added 0 (omega arith) in
    let second = added 1 (omega arith) in
    let third = added 2 (omega arith) in
    let fourth = added 3 (omega arith) in
    omega (arith, first, second, third, fourth)

-- the low and the high words of numbers, added apart
pub total_added : (low high lows highs sums : List ℕ)
    → sum_of_lanes lows ≡ sum_of_lanes low + (get_or sums 0 0 % 2 ^ 32 + get_or sums 1 0 % 2 ^ 32 + get_or sums 2 0 % 2 ^ 32 + get_or sums 3 0 % 2 ^ 32)
    → sum_of_lanes highs ≡ sum_of_lanes high + (get_or sums 0 0 / 2 ^ 32 + get_or sums 1 0 / 2 ^ 32 + get_or sums 2 0 / 2 ^ 32 + get_or sums 3 0 / 2 ^ 32)
    → total lows highs ≡ total low high + sum_of_lanes sums
total_added low high lows highs sums e f = omega (arith, e, f)

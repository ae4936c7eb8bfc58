-- Sums of products of rows of words, at a lane.
use Rattle.std.proofs.Common.{get_or, ◌≡◌, ℕ, ◌+◌, ◌-◌, ◌*◌, ◌/◌, ◌%◌, ◌<◌, ◌≤◌, ◌^◌, List, length, drop, arith, ap}
use Rattle.std.proofs.Math.Nat.{mul-le-mul}
use Rattle.std.proofs.lemmas.List.{drop_all}
use Rattle.p3_theory.specs.ResidueRings.SumsOfProducts.{sum_of_products, products-drop}

-- the product of two words below 2^31
pub product_short : (x y : ℕ) → x < 2 ^ 31 → y < 2 ^ 31 → x * y < 2 ^ 62
product_short x y h k =
    let most = mul-le-mul (let e : x ≤ 2147483647 = omega (arith, h) in e) (let e : y ≤ 2147483647 = omega (arith, k) in e) in
    omega (arith, most)

module _ {A : Type 0} (word : A → ℕ) (us vs : List A) (same : length us ≡ length vs) (start : ℕ) (room : start + 4 ≤ length us) where
  -- the products of the rows at four indices, and of those after them
  pub four_products : (a b c d e f g h : A) → a ≡ get_or us start a → b ≡ get_or us (start + 1) b → c ≡ get_or us (start + 2) c → d ≡ get_or us (start + 3) d
      → e ≡ get_or vs start e → f ≡ get_or vs (start + 1) f → g ≡ get_or vs (start + 2) g → h ≡ get_or vs (start + 3) h
      → word a * word e + word b * word f + (word c * word g + word d * word h) + sum_of_products word (drop (start + 4) us) (drop (start + 4) vs)
      ≡ sum_of_products word (drop start us) (drop start vs)
  four_products a b c d e f g h ea eb ec ed ee ef eg eh =
      let first = products-drop word us vs start a e (omega (arith, room)) (omega (arith, room, same)) ea ee in
      let second = products-drop word us vs (start + 1) b f (omega (arith, room)) (omega (arith, room, same)) eb ef in
      let third = products-drop word us vs (start + 2) c g (omega (arith, room)) (omega (arith, room, same)) ec eg in
      let fourth = products-drop word us vs (start + 3) d h (omega (arith, room)) (omega (arith, room, same)) ed eh in
      let at : ℕ → ℕ = λ n. sum_of_products word (drop n us) (drop n vs) in
      let two : at (start + 1 + 1) ≡ at (start + 2) = ap at (let e : start + 1 + 1 ≡ start + 2 = omega arith in e) in
      let three : at (start + 2 + 1) ≡ at (start + 3) = ap at (let e : start + 2 + 1 ≡ start + 3 = omega arith in e) in
      let four : at (start + 3 + 1) ≡ at (start + 4) = ap at (let e : start + 3 + 1 ≡ start + 4 = omega arith in e) in
      omega (arith, first, second, third, fourth, two, three, four)

-- past the end of a list there is nothing to sum up
pub none-left : {A : Type 0} (word : A → ℕ) (i : ℕ) (xs ys : List A) → length xs ≤ i → sum_of_products word (drop i xs) ys ≡ 0
none-left word i xs ys past = ap (λ zs. sum_of_products word zs ys) (drop_all i xs past)

-- a product that is added to the sums of low and of high words
pub added : (n low high old_low old_high product rest before whole : ℕ) → low ≡ old_low + n % 2 ^ 32 → high ≡ old_high + n / 2 ^ 32 → n ≡ product → before ≡ product + rest
    → old_low + 2 ^ 32 * old_high + before ≡ whole → low + 2 ^ 32 * high + rest ≡ whole
added n low high old_low old_high product rest before whole a b c d e = omega (arith, a, b, c, d, e)

-- the sum of the low words of numbers, from that of the numbers modulo 2^64 and that of their high words
abbrev pub low_of : ℕ → ℕ → ℕ
low_of total high = (total + (2 ^ 64 - (high * 2 ^ 32) % 2 ^ 64)) % 2 ^ 64

-- one number more adds its low word
pub low_added : (n total high old_total old_high : ℕ) → total ≡ (old_total + n) % 2 ^ 64 → high ≡ old_high + n / 2 ^ 32
    → low_of old_total old_high ≤ (2 ^ 32 - 1) * (2 ^ 32 - 1) → low_of total high ≡ low_of old_total old_high + n % 2 ^ 32
low_added n total high old_total old_high a b c = omega (arith, a, b, c)

-- and is one word
pub low_more : (i low old_low n : ℕ) → low ≡ old_low + n % 2 ^ 32 → old_low ≤ i * (2 ^ 32 - 1) → low ≤ (i + 1) * (2 ^ 32 - 1)
low_more i low old_low n a b = omega (arith, a, b)

-- as many words as there are rows are few
pub low_few : (i low : ℕ) → i < 2 ^ 16 → low ≤ i * (2 ^ 32 - 1) → low ≤ (2 ^ 32 - 1) * (2 ^ 32 - 1)
low_few i low a b = omega (arith, a, b)

-- at most so many words are few where so many rows are
pub few_words : (i new old : ℕ) → i ≤ 2 ^ 16 → new ≡ old → old ≤ i * (2 ^ 32 - 1) → new ≤ 2 ^ 16 * (2 ^ 32 - 1)
few_words i new old a b c = omega (arith, a, b, c)

-- where nothing is left, the sums come to the whole
pub summed_up : (low high old_low old_high rest whole : ℕ) → low ≡ old_low → high ≡ old_high → rest ≡ 0 → old_low + 2 ^ 32 * old_high + rest ≡ whole → low + 2 ^ 32 * high ≡ whole
summed_up low high old_low old_high rest whole a b c d = omega (arith, a, b, c, d)

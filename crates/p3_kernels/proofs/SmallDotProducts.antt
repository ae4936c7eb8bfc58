-- Sums of four products of words below 2^7, computed on halves of 16 bits.
use Rattle.std.proofs.Common.{get_or, ◌≡◌, ℕ, ◌+◌, ◌-◌, ◌*◌, ◌/◌, ◌%◌, ◌^◌, ◌<◌, ◌≤◌, List, [], ◌∷◌, length, map, suc, arith, ◌∙◌, sym, ap, ap₂, refl, subst, w16}
use Rattle.std.proofs.Math.Nat.{mul-le-mul}
use Rattle.std.proofs.lemmas.List.{take_all}
use Rattle.std.proofs.lemmas.Simd.{pick_l-range_with_len}
use Rattle.std.specs.Prelude.{All}
use Rattle.p3_kernels.proofs.LaneOperations.{lane2, width2}
use Rattle.p3_kernels.proofs.Rows.{four_products}
use Rattle.p3_kernels.specs.Words.{RowsAreBelow, dot_at, product_at}
use Rattle.p3_kernels.proofs.SmallProducts.{halves_most, high_is, joined_residues, low_is, product_most, times}
use Rattle.p3_kernels.specs.Residues.{AreResidues}
use Rattle.p3_theory.specs.ResidueRings.SumsOfProducts.{sum_of_products}
use lib.Lanes.{zip2}
use borrow.Rule.Simd.Lanes.{act2}
use borrow.Table.Row.{s_int}
use mir.Syntax.{wrap_add}

abbrev plus : ℕ → ℕ → ℕ
plus = act2 wrap_add (s_int w16) (s_int w16) (s_int w16)

sum_of_rests : (u v : ℕ) → (u % 2 ^ 16 + v % 2 ^ 16) % 2 ^ 16 ≡ (u + v) % 2 ^ 16
sum_of_rests u v = omega arith

-- a sum of two products
module _ (n : ℕ) (a e b f : List ℕ) (wa : length a ≡ n) (we : length e ≡ n) (wb : length b ≡ n) (wf : length f ≡ n) where
  pub two_width : length (zip2 plus (zip2 times a e) (zip2 times b f)) ≡ n
  two_width = width2 plus n (zip2 times a e) (zip2 times b f) (width2 times n a e wa we) (width2 times n b f wb wf)

  pub two_lane : (k : ℕ) → k < n → get_or (zip2 plus (zip2 times a e) (zip2 times b f)) k 0 ≡ (product_at a e k + product_at b f k) % 2 ^ 16
  two_lane k l =
      lane2 plus n (zip2 times a e) (zip2 times b f) (width2 times n a e wa we) (width2 times n b f wb wf) k l
      ∙ (λ ι. plus (lane2 times n a e wa we k l ι) (lane2 times n b f wb wf k l ι))
      ∙ sum_of_rests (product_at a e k) (product_at b f k)

sum_is : (s t u v z : ℕ) → s ≡ u % 2 ^ 16 → t ≡ v % 2 ^ 16 → u + v ≡ z → z < 2 ^ 16 → (s + t) % 2 ^ 16 ≡ z
sum_is s t u v z a b c l = omega (arith, a, b, c, l)

-- a sum of four
module _ (n : ℕ) (left right : List (List ℕ)) (s t : List ℕ) (ws : length s ≡ n) (wt : length t ≡ n) where
  pub sums_lane : length left ≡ 4 → length right ≡ 4 → ((k : ℕ) → k < n → dot_at left right k < 2 ^ 16)
      → ((k : ℕ) → k < n → get_or s k 0 ≡ (product_at (get_or left 0 []) (get_or right 0 []) k + product_at (get_or left 1 []) (get_or right 1 []) k) % 2 ^ 16)
      → ((k : ℕ) → k < n → get_or t k 0 ≡ (product_at (get_or left 2 []) (get_or right 2 []) k + product_at (get_or left 3 []) (get_or right 3 []) k) % 2 ^ 16)
      → (k : ℕ) → k < n → get_or (zip2 plus s t) k 0 ≡ dot_at left right k
  sums_lane fl fr short es et k l =
      lane2 plus n s t ws wt k l
      ∙ sum_is (get_or s k 0) (get_or t k 0) _ _ (dot_at left right k) (es k l) (et k l) (four_products (λ row. get_or row k 0) [] left right fl fr) (short k l)

-- four times the greatest product of residues modulo p
pub four_fit : (p m : ℕ) → p ≤ 2 ^ 7 → m ≡ (p - 1) * (p - 1) → 4 * m < 2 ^ 16
four_fit p m h e =
    let small : p - 1 ≤ 127 = omega (arith, h) in
    let most : (p - 1) * (p - 1) ≤ 127 * 127 = mul-le-mul small small in
    let bound : m ≤ 127 * 127 = subst (λ z. z ≤ 127 * 127) (sym e) most in
    omega (arith, bound)

-- the rows of a list of four, in turn
pub four_rows : {A : Type 0} (d : A) (xs : List A) → length xs ≡ 4 → get_or xs 0 d ∷ get_or xs 1 d ∷ get_or xs 2 d ∷ get_or xs 3 d ∷ [] ≡ xs
four_rows d xs e = pick_l-range_with_len d xs 0 4 (omega (arith, e)) ∙ take_all 4 xs (omega (arith, e))

-- the sum of the products of words is told by the words alone
words_sum : {A : Type 0} (word : A → ℕ) (xs ys : List A) → sum_of_products word xs ys ≡ sum_of_products (λ z. z) (map word xs) (map word ys)
words_sum word [] ys = refl
words_sum word (x ∷ xs) [] = refl
words_sum word (x ∷ xs) (y ∷ ys) = ap (λ s. word x * word y + s) (words_sum word xs ys)

zeros_sum : {A : Type 0} (xs ys : List A) → sum_of_products (λ x. 0) xs ys ≡ 0
zeros_sum [] ys = refl
zeros_sum (x ∷ xs) [] = refl
zeros_sum (x ∷ xs) (y ∷ ys) = omega (arith, zeros_sum xs ys)

same_words : {A : Type 0} (f g : A → ℕ) (xs : List A) → All (λ x. f x ≡ g x) xs → map f xs ≡ map g xs
same_words f g [] h = refl
same_words f g (x ∷ xs) h = ap₂ (λ z zs. z ∷ zs) (h 0 x (omega arith)) (same_words f g xs (λ j d l. h (suc j) d (omega (arith, l))))

-- of rows with words below p and their halves
module _ (n p : ℕ) (left right xs ys : List (List ℕ)) (fits : p ≤ 2 ^ 7) (a : RowsAreBelow n p left) (b : RowsAreBelow n p right)
    (xe : (k : ℕ) → k < n → map (λ row. get_or row (2 * k) 0) xs ≡ map (λ row. get_or row k 0 % 2 ^ 16) left)
    (xo : (k : ℕ) → k < n → map (λ row. get_or row (2 * k + 1) 0) xs ≡ map (λ row. get_or row k 0 / 2 ^ 16) left)
    (ye : (k : ℕ) → k < n → map (λ row. get_or row (2 * k) 0) ys ≡ map (λ row. get_or row k 0 % 2 ^ 16) right)
    (yo : (k : ℕ) → k < n → map (λ row. get_or row (2 * k + 1) 0) ys ≡ map (λ row. get_or row k 0 / 2 ^ 16) right) where
  lows : (rows : List (List ℕ)) → RowsAreBelow n p rows → (k : ℕ) → k < n → map (λ row. get_or row k 0 % 2 ^ 16) rows ≡ map (λ row. get_or row k 0) rows
  lows rows below k l = same_words (λ row. get_or row k 0 % 2 ^ 16) (λ row. get_or row k 0) rows (λ j d h. low_is p (get_or (get_or rows j d) k 0) _ (omega (arith, fits)) (below j d h k l) refl)

  highs : (rows : List (List ℕ)) → RowsAreBelow n p rows → (k : ℕ) → k < n → map (λ row. get_or row k 0 / 2 ^ 16) rows ≡ map (λ row. 0) rows
  highs rows below k l = same_words (λ row. get_or row k 0 / 2 ^ 16) (λ row. 0) rows (λ j d h. high_is p (get_or (get_or rows j d) k 0) _ (omega (arith, fits)) (below j d h k l) refl)

  even_sum : (k : ℕ) → k < n → dot_at xs ys (2 * k) ≡ dot_at left right k
  even_sum k l =
      words_sum (λ row. get_or row (2 * k) 0) xs ys
      ∙ ap₂ (sum_of_products (λ z. z)) (xe k l ∙ lows left a k l) (ye k l ∙ lows right b k l)
      ∙ sym (words_sum (λ row. get_or row k 0) left right)

  odd_sum : (k : ℕ) → k < n → dot_at xs ys (2 * k + 1) ≡ 0
  odd_sum k l =
      words_sum (λ row. get_or row (2 * k + 1) 0) xs ys
      ∙ ap₂ (sum_of_products (λ z. z)) (xo k l ∙ highs left a k l) (yo k l ∙ highs right b k l)
      ∙ sym (words_sum (λ row. 0) left right) ∙ zeros_sum left right

  -- where m is the greatest product of two residues
  module _ (m : ℕ) (greatest : m ≡ (p - 1) * (p - 1)) (fl : length left ≡ 4) (fr : length right ≡ 4) where
    product_bound : (k : ℕ) → k < n → (j : ℕ) → j < 4 → product_at (get_or left j []) (get_or right j []) k ≤ m
    product_bound k l j h = product_most p (get_or (get_or left j []) k 0) (get_or (get_or right j []) k 0) m greatest (a j [] (omega (arith, fl, h)) k l) (b j [] (omega (arith, fr, h)) k l)

    dot_most : (k : ℕ) → k < n → dot_at left right k ≤ 4 * m
    dot_most k l =
        let bound = product_bound k l in
        let first = bound 0 (omega arith) in
        let second = bound 1 (omega arith) in
        let third = bound 2 (omega arith) in
        let fourth = bound 3 (omega arith) in
        subst (λ z. z ≤ 4 * m) (four_products (λ row. get_or row k 0) [] left right fl fr) (omega (arith, first, second, third, fourth))

    pub half_sums_most : (k : ℕ) → k < 2 * n → dot_at xs ys k ≤ 4 * m
    half_sums_most = halves_most n p (dot_at left right) (dot_at xs ys) even_sum odd_sum (4 * m) dot_most

  pub joined_sums : (zs ws : List ℕ) → AreResidues (2 * n) p (dot_at xs ys) zs → ((k : ℕ) → k < n → get_or ws k 0 ≡ get_or zs (2 * k) 0 + 2 ^ 16 * get_or zs (2 * k + 1) 0)
      → AreResidues n p (dot_at left right) ws
  joined_sums = joined_residues n p (dot_at left right) (dot_at xs ys) even_sum odd_sum

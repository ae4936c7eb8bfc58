-- Four rows of words, by which four others are multiplied index by index.
use Rattle.std.proofs.Common.{get_or, ◌≡◌, ℕ, ◌+◌, ◌*◌, ◌<◌, ◌≤◌, List, [], ◌∷◌, length, map, arith, zero, suc, ap, ap₂, refl}
use Rattle.std.specs.Prelude.{All, slice_index}
use denote.Ref.{Bor}
use Rattle.p3_kernels.proofs.StoredBlocks.{block-below, block-products}
use Rattle.p3_theory.specs.ResidueRings.SumsOfProducts.{sum_of_products}
use Rattle.p3_kernels.specs.Words.{RowsAreBelow, block_at, dot_at, rows_of}

-- the sum of four products, as it is added up
pub four_products : {A : Type 0} (word : A → ℕ) (d : A) (xs ys : List A) → length xs ≡ 4 → length ys ≡ 4
    → word (get_or xs 0 d) * word (get_or ys 0 d) + word (get_or xs 1 d) * word (get_or ys 1 d)
    + (word (get_or xs 2 d) * word (get_or ys 2 d) + word (get_or xs 3 d) * word (get_or ys 3 d))
    ≡ sum_of_products word xs ys
four_products word d (x0 ∷ x1 ∷ x2 ∷ x3 ∷ []) (y0 ∷ y1 ∷ y2 ∷ y3 ∷ []) e f = omega arith
four_products word d [] ys e f = absurd (omega (arith, e))
four_products word d (x0 ∷ []) ys e f = absurd (omega (arith, e))
four_products word d (x0 ∷ x1 ∷ []) ys e f = absurd (omega (arith, e))
four_products word d (x0 ∷ x1 ∷ x2 ∷ []) ys e f = absurd (omega (arith, e))
four_products word d (x0 ∷ x1 ∷ x2 ∷ x3 ∷ x4 ∷ xs) ys e f = absurd (omega (arith, e))
four_products word d (x0 ∷ x1 ∷ x2 ∷ x3 ∷ []) [] e f = absurd (omega (arith, f))
four_products word d (x0 ∷ x1 ∷ x2 ∷ x3 ∷ []) (y0 ∷ []) e f = absurd (omega (arith, f))
four_products word d (x0 ∷ x1 ∷ x2 ∷ x3 ∷ []) (y0 ∷ y1 ∷ []) e f = absurd (omega (arith, f))
four_products word d (x0 ∷ x1 ∷ x2 ∷ x3 ∷ []) (y0 ∷ y1 ∷ y2 ∷ []) e f = absurd (omega (arith, f))
four_products word d (x0 ∷ x1 ∷ x2 ∷ x3 ∷ []) (y0 ∷ y1 ∷ y2 ∷ y3 ∷ y4 ∷ ys) e f = absurd (omega (arith, f))

-- the words at an index of what slices point to
pub dot-of_slices : (xs ys : List (Bor (List ℕ))) (k : ℕ) → sum_of_products (λ x. get_or x.now k 0) xs ys ≡ dot_at (rows_of xs) (rows_of ys) k
dot-of_slices [] ys k = refl
dot-of_slices (x ∷ xs) [] k = refl
dot-of_slices (x ∷ xs) (y ∷ ys) k = ap (λ s. get_or x.now k 0 * get_or y.now k 0 + s) (dot-of_slices xs ys k)

-- the words at an index of blocks are those of the rows so much further on
pub dot-of_blocks : (i n k : ℕ) → k < n → (xs ys : List (List ℕ)) → dot_at (map (block_at i n) xs) (map (block_at i n) ys) k ≡ dot_at xs ys (i + k)
dot-of_blocks i n k l [] ys = refl
dot-of_blocks i n k l (x ∷ xs) [] = refl
dot-of_blocks i n k l (x ∷ xs) (y ∷ ys) = ap₂ (λ a b. a + b) (block-products i n x y k l) (dot-of_blocks i n k l xs ys)

-- blocks of rows whose first m words are below p
pub blocks-below : (i n p m : ℕ) → i + n ≤ m → (xs : List (List ℕ)) → RowsAreBelow m p xs → RowsAreBelow n p (map (block_at i n) xs)
blocks-below i n p m h [] below j d l = absurd (omega (arith, l))
blocks-below i n p m h (x ∷ xs) below zero d l = block-below p i n m x h (below 0 d (omega arith))
blocks-below i n p m h (x ∷ xs) below (suc j) d l = blocks-below i n p m h xs (λ q e lq. below (suc q) e (omega (arith, lq))) j d (omega (arith, l))

-- the words at an index of such rows
pub words-below : (p m i : ℕ) → i < m → (xs : List (Bor (List ℕ))) → RowsAreBelow m p (rows_of xs) → All (λ x. slice_index x.now i < p) xs
words-below p m i h [] below j d l = absurd (omega (arith, l))
words-below p m i h (x ∷ xs) below zero d l = below 0 [] (omega arith) i h
words-below p m i h (x ∷ xs) below (suc j) d l = words-below p m i h xs (λ q e lq. below (suc q) e (omega (arith, lq))) j d (omega (arith, l))

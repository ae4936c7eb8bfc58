-- What is said of the words in a vector, a slice or an array, index by index.
use Rattle.std.specs.Prelude.{◌≡◌, ◌<◌, ◌*◌, ◌%◌, ◌^◌, ℕ, List, slice_index, All, map, take, drop}
use denote.Ref.{Bor}
use Rattle.p3_theory.specs.ResidueRings.SumsOfProducts.{sum_of_products}

-- the first n words are below a bound
abbrev pub AreBelow : ℕ → ℕ → List ℕ → Type 0
AreBelow n bound words = (k : ℕ) → k < n → slice_index words k < bound

-- the first n words, multiplied by 2^32, are the numbers modulo the order
abbrev pub AreReduced : ℕ → ℕ → (ℕ → ℕ) → List ℕ → Type 0
AreReduced n order number words = (k : ℕ) → k < n → (slice_index words k * 2 ^ 32) % order ≡ number k % order

-- the product of the words at an index
abbrev pub product_at : List ℕ → List ℕ → ℕ → ℕ
product_at left right k = slice_index left k * slice_index right k

-- the sum of the products of the words at an index of four rows and of four others
abbrev pub dot_at : List (List ℕ) → List (List ℕ) → ℕ → ℕ
dot_at left right k = sum_of_products (λ row. slice_index row k) left right

-- in each of the first rows the first n words are below a bound
abbrev pub RowsAreBelow : ℕ → ℕ → List (List ℕ) → Type 0
RowsAreBelow n bound rows = All (AreBelow n bound) rows

-- the n words of a row from an index on
abbrev pub block_at : ℕ → ℕ → List ℕ → List ℕ
block_at start n row = take n (drop start row)

-- the rows that slices point to
abbrev pub rows_of : List (Bor (List ℕ)) → List (List ℕ)
rows_of slices = map (λ slice. slice.now) slices

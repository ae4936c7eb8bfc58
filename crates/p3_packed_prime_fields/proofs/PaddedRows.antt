-- Sums of products of rows, after which there may be rows of zeros.
use Rattle.std.specs.Prelude.{◌≡◌, ◌<◌, ◌≤◌, ◌+◌, ◌*◌, ℕ, suc, List, [], ◌∷◌, length, get_or}
use Rattle.std.proofs.Common.{ap₂, arith, ◌∙◌}
use Rattle.p3_theory.specs.ResidueRings.SumsOfProducts.{sum_of_products}
use Rattle.p3_packed_prime_fields.specs.Columns.{column}

module _ (k : ℕ) where
  -- the word at the index of a row
  abbrev at : List ℕ → ℕ
  at row = get_or row k 0

  -- rows that have zero there
  of_zeros : (ws vs : List (List ℕ)) → ((i : ℕ) → i < length ws → at (get_or ws i []) ≡ 0) → sum_of_products at ws vs ≡ 0
  of_zeros [] vs h = omega arith
  of_zeros (w ∷ ws) [] h = omega arith
  of_zeros (w ∷ ws) (v ∷ vs) h =
      ap₂ (λ a b. a * at v + b) (h 0 (omega arith)) (of_zeros ws vs (λ i l. h (suc i) (omega (arith, l)))) ∙ (let e : 0 * at v + 0 ≡ 0 = omega arith in e)

  -- the words of the first rows are those of values
  module _ {A : Type 0} (word : A → ℕ) (d : A) where
    pub of_padded : (xs ys : List (List A)) (ws vs : List (List ℕ)) → length xs ≡ length ys → length xs ≤ length ws → length ws ≡ length vs
        → ((i : ℕ) → i < length xs → at (get_or ws i []) ≡ word (get_or (get_or xs i []) k d))
        → ((i : ℕ) → i < length ys → at (get_or vs i []) ≡ word (get_or (get_or ys i []) k d))
        → ((i : ℕ) → length xs ≤ i → i < length ws → at (get_or ws i []) ≡ 0)
        → sum_of_products at ws vs ≡ sum_of_products word (column k d xs) (column k d ys)
    of_padded [] ys ws vs e f m p q z = of_zeros ws vs (λ i l. z i (omega arith) l)
    of_padded (x ∷ xs) [] ws vs e f m p q z = absurd (omega (arith, e))
    of_padded (x ∷ xs) (y ∷ ys) [] vs e f m p q z = absurd (omega (arith, f))
    of_padded (x ∷ xs) (y ∷ ys) (w ∷ ws) [] e f m p q z = absurd (omega (arith, m))
    of_padded (x ∷ xs) (y ∷ ys) (w ∷ ws) (v ∷ vs) e f m p q z =
        (λ ι. p 0 (omega arith) ι * q 0 (omega arith) ι
        + of_padded xs ys ws vs (omega (arith, e)) (omega (arith, f)) (omega (arith, m)) (λ i l. p (suc i) (omega (arith, l))) (λ i l. q (suc i) (omega (arith, l)))
        (λ i l b. z (suc i) (omega (arith, l)) (omega (arith, b))) ι)

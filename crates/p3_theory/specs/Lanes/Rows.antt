-- Types whose values are the lists of a fixed length.
use Rattle.std.specs.Prelude.{◌≡◌, ℕ, List, [], ◌∷◌, length, refl}
use Rattle.std.proofs.Common.{ap, arith, ◌∙◌, sym, subst, suc, zero}
use Rattle.std.specs.Coded.{Coded, coded_list}
use base.Stored.{coded_via}
use Rattle.std.proofs.Math.Nat.{ℕ_set}

-- the values of V are the lists of n values of A
pub record Rows (V A : Type 0) (n : ℕ) : Type 0 where
  pub items : V → List A
  pub sized : (x : V) → length (items x) ≡ n
  pub row_of : (xs : List A) → length xs ≡ n → V
  pub items_of : (xs : List A) (h : length xs ≡ n) → items (row_of xs h) ≡ xs
  pub same : (x y : V) → items x ≡ items y → x ≡ y

-- a list of n values with its length
pub record Row (A : Type 0) (n : ℕ) : Type 0 where
  pub items : List A
  pub sized : length items ≡ n

module _ {A : Type 0} where
  -- the first n items, and z where there are fewer
  abbrev pub fit : A → ℕ → List A → List A
  fit z zero xs = []
  fit z (suc n) [] = z ∷ fit z n []
  fit z (suc n) (x ∷ xs) = x ∷ fit z n xs

  pub length-fit : (z : A) (n : ℕ) (xs : List A) → length (fit z n xs) ≡ n
  length-fit z zero xs = refl
  length-fit z (suc n) [] = omega (arith, length-fit z n [])
  length-fit z (suc n) (x ∷ xs) = omega (arith, length-fit z n xs)

  pub fit_same : (z : A) (n : ℕ) (xs : List A) → length xs ≡ n → fit z n xs ≡ xs
  fit_same z zero [] h = refl
  fit_same z zero (x ∷ xs) h = absurd (omega arith)
  fit_same z (suc n) [] h = absurd (omega arith)
  fit_same z (suc n) (x ∷ xs) h = ap (λ l. x ∷ l) (fit_same z n xs (omega arith))

  -- a list cut to length n, or filled up to it by z
  abbrev pub fitted : A → (n : ℕ) → List A → Row A n
  fitted z n xs = record { items = fit z n xs; sized = length-fit z n xs }

  -- a list of length n as a row
  abbrev pub row_by : (n : ℕ) (xs : List A) → length xs ≡ n → Row A n
  row_by n xs h = record { items = xs; sized = h }

  pub same_items : {n : ℕ} (x y : Row A n) → x.items ≡ y.items → x ≡ y
  same_items {n} x y e =
      (subst (λ (v : List A). (k : length v ≡ n) → row_by n x.items x.sized ≡ row_by n v k) e (λ k. ap (row_by n x.items) (ℕ_set _ _ x.sized k))) y.sized

  -- the hash code of a row is that of its list
  abbrev pub row_code : (n : ℕ) → Coded A → Coded (Row A n)
  row_code n c = coded_via (coded_list c) (λ r. r.items) (same_items {n = n})

  pub opened : (z : A) (n : ℕ) (xs : List A) (r : Row A n) → fitted z n xs ≡ r → length xs ≡ n → xs ≡ r.items
  opened z n xs r e h = sym (fit_same z n xs h) ∙ ap (λ (s : Row A n). s.items) e

  -- rows are such a type
  abbrev pub rows : {n : ℕ} → Rows (Row A n) A n
  rows {n} = record { items = λ x. x.items; sized = λ x. x.sized; row_of = row_by n; items_of = λ xs h. refl; same = same_items }

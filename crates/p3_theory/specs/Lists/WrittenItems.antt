-- Lists whose every item was written, one entry after the other.
use Rattle.std.proofs.Common.{◌≡◌, ℕ, suc, List, [], ◌∷◌, length, ap, ◌∙◌, arith}
use Rattle.std.proofs.Math.ListN.{set}

module _ {A : Type 0} where
  -- the list with the items ys written from index i on
  abbrev pub written : List A → ℕ → List A → List A
  written xs i [] = xs
  written xs i (y ∷ ys) = written (set xs i y) (suc i) ys

  written-rest : (x : A) (xs : List A) (i : ℕ) (ys : List A) → written (x ∷ xs) (suc i) ys ≡ x ∷ written xs i ys
  written-rest x xs i [] = λ j. x ∷ xs
  written-rest x xs i (y ∷ ys) = written-rest x (set xs i y) (suc i) ys

  -- writing each item of a list leaves those
  pub all_written : (xs ys : List A) → length xs ≡ length ys → written xs 0 ys ≡ ys
  all_written [] [] h = λ j. []
  all_written (x ∷ xs) [] h = absurd (omega arith)
  all_written [] (y ∷ ys) h = absurd (omega arith)
  all_written (x ∷ xs) (y ∷ ys) h =
      let rest : length xs ≡ length ys = omega arith in written-rest y xs 0 ys ∙ ap (λ l. y ∷ l) (all_written xs ys rest)

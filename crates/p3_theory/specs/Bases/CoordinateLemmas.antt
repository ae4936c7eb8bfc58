-- Lists of coefficients one after the other.
use Rattle.std.specs.Prelude.{slice_get}
use Rattle.std.proofs.Common.{◌≡◌, ◌<◌, ◌≤◌, ◌+◌, ◌-◌, ◌*◌, ◌%◌, ℕ, zero, suc, List, [], ◌∷◌, ◌++◌, length, take, drop, Some, refl, ap, sym, ◌∙◌, arith, append_assoc}
use Rattle.std.proofs.lemmas.List.{take-append-drop}
use Rattle.std.proofs.lemmas.Grind.{flat_map-append}
use mathlib.Core.List.{append-nil}
use Rattle.std.proofs.Math.Nat.{mod-eq-sub-mod, mod-eq_of_lt}
use Rattle.std.proofs.Math.Decide.{dec_le}
use mathlib.Core.Logic.{dite}
use Rattle.p3_theory.specs.Bases.Coordinates.{flattened}

module _ {A : Type 0} where
  slice_get-front : (xs ys : List A) (j : ℕ) → j < length xs → slice_get (xs ++ ys) j ≡ slice_get xs j
  slice_get-front [] ys j h = absurd (omega arith)
  slice_get-front (x ∷ xs) ys zero h = refl
  slice_get-front (x ∷ xs) ys (suc j) h = slice_get-front xs ys j (omega arith)

  slice_get-back : (xs ys : List A) (j : ℕ) → slice_get (xs ++ ys) (length xs + j) ≡ slice_get ys j
  slice_get-back [] ys j = let e : 0 + j ≡ j = omega arith in ap (slice_get ys) e
  slice_get-back (x ∷ xs) ys j = let e : suc (length xs) + j ≡ suc (length xs + j) = omega arith in ap (slice_get ((x ∷ xs) ++ ys)) e ∙ slice_get-back xs ys j

-- coefficient j of value i stands at index i * n + j
pub flattened-entry : {V A : Type 0} (coefficients : V → List A) (n : ℕ) → ((x : V) → length (coefficients x) ≡ n)
    → (xs : List V) (i j : ℕ) (x : V) → slice_get xs i ≡ Some x → j < n → slice_get (flattened coefficients xs) (i * n + j) ≡ slice_get (coefficients x) j
flattened-entry coefficients n l [] i j x e h = absurd (cc e)
flattened-entry coefficients n l (y ∷ ys) zero j x e h =
    let k : 0 * n + j ≡ j = omega arith in
    ap (slice_get (flattened coefficients (y ∷ ys))) k ∙ slice_get-front (coefficients y) (flattened coefficients ys) j (omega (arith, l y)) ∙ ap (λ z. slice_get (coefficients z) j) (cc e)
flattened-entry coefficients n l (y ∷ ys) (suc i) j x e h =
    let more : suc i * n ≡ n + i * n = omega arith in
    let k : suc i * n + j ≡ length (coefficients y) + (i * n + j) = omega (arith, more, l y) in
    ap (slice_get (flattened coefficients (y ∷ ys))) k ∙ slice_get-back (coefficients y) (flattened coefficients ys) (i * n + j) ∙ flattened-entry coefficients n l ys i j x e h

-- the coefficients of one more value, taken from the front of what is left
pub flattened-push : {V A : Type 0} (coefficients : V → List A) (n : ℕ) (xs : List V) (x : V) (rest all : List A) → coefficients x ≡ take n rest
    → flattened coefficients xs ++ rest ≡ all → flattened coefficients (xs ++ (x ∷ [])) ++ drop n rest ≡ all
flattened-push coefficients n xs x rest all e h =
    ap (λ l. l ++ drop n rest) (flat_map-append coefficients xs (x ∷ []) ∙ ap (λ l. flattened coefficients xs ++ l) (append-nil (coefficients x) ∙ e))
    ∙ append_assoc (flattened coefficients xs) (take n rest) (drop n rest) ∙ ap (λ l. flattened coefficients xs ++ l) (take-append-drop n rest) ∙ h

-- a positive number that n divides is at least n, and n divides the rest
pub divided_front : (m n : ℕ) → 0 < n → m % n ≡ 0 → 0 < m → (n ≤ m) × ((m - n) % n ≡ 0)
divided_front m n z e h = dite (dec_le n m) (λ l. (l, sym (mod-eq-sub-mod l) ∙ e)) (λ l. absurd (small (omega arith)))
  where
    small : m < n → ⊥
    small l = omega (arith, e, mod-eq_of_lt l)

-- ---- a list of one coefficient

pub single-same : {A : Type 0} (x y : A) → x ∷ [] ≡ y ∷ [] → x ≡ y
single-same x y e = cc

pub single-onto : {A : Type 0} (xs : List A) → length xs ≡ 1 → (x : A) × (x ∷ [] ≡ xs)
single-onto [] l = absurd (omega (arith, l))
single-onto (x ∷ []) l = (x, refl)
single-onto (x ∷ y ∷ xs) l = absurd (omega (arith, l))

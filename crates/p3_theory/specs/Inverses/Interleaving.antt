-- The indices of two lists of one length whose items stand in turn.
use Rattle.std.specs.Prelude.{◌≡◌, ◌<◌, ◌≤◌, ◌+◌, ◌*◌, ◌∷◌, ℕ, List, [], length, get_or, zero, suc, refl}
use Rattle.std.proofs.Common.{arith, ap, ◌∙◌, sym, subst}
use Rattle.std.proofs.Math.ListN.{set, length-set}
use Rattle.std.proofs.lemmas.List.{ext_get_or}
use Rattle.p3_theory.specs.Lists.TabulatedEntries.{HoldsBelow, holds-more}
use Rattle.p3_theory.specs.Inverses.EvenOdd.{interleave}

module _ {A : Type 0} where
  pub length-interleave : (xs ys : List A) → length xs ≡ length ys → length (interleave xs ys) ≡ length xs + length xs
  length-interleave [] ys h = refl
  length-interleave (x ∷ xs) [] h = absurd (omega arith)
  length-interleave (x ∷ xs) (y ∷ ys) h =
      let e : length xs ≡ length ys = omega arith in
      let r = length-interleave xs ys e in
      omega (arith, r)

  -- the items of the first list stand at even indices
  pub at-even : (xs ys : List A) (i : ℕ) (d : A) → length xs ≡ length ys → i < length xs → get_or (interleave xs ys) (2 * i) d ≡ get_or xs i d
  at-even [] ys i d h l = absurd (omega arith)
  at-even (x ∷ xs) [] i d h l = absurd (omega arith)
  at-even (x ∷ xs) (y ∷ ys) zero d h l = refl
  at-even (x ∷ xs) (y ∷ ys) (suc i) d h l =
      let next : 2 * suc i ≡ suc (suc (2 * i)) = omega arith in
      ap (λ k. get_or (x ∷ y ∷ interleave xs ys) k d) next ∙ at-even xs ys i d (omega arith) (omega arith)

  -- and those of the second at odd ones
  pub at-odd : (xs ys : List A) (i : ℕ) (d : A) → length xs ≡ length ys → i < length xs → get_or (interleave xs ys) (2 * i + 1) d ≡ get_or ys i d
  at-odd [] ys i d h l = absurd (omega arith)
  at-odd (x ∷ xs) [] i d h l = absurd (omega arith)
  at-odd (x ∷ xs) (y ∷ ys) zero d h l = refl
  at-odd (x ∷ xs) (y ∷ ys) (suc i) d h l =
      let next : 2 * suc i + 1 ≡ suc (suc (2 * i + 1)) = omega arith in
      ap (λ k. get_or (x ∷ y ∷ interleave xs ys) k d) next ∙ at-odd xs ys i d (omega arith) (omega arith)

  -- a list that takes the next item of each at each step
  abbrev pub InTurnBelow : List A → List A → A → List A → ℕ → Type 0
  InTurnBelow xs ys d out i = HoldsBelow (λ k. get_or (interleave xs ys) k d) d out (2 * i)

  pub in_turn-more : (xs ys : List A) (d : A) (out : List A) (i : ℕ) (x y : A) → length xs ≡ length ys → i < length xs → length out ≡ length xs + length xs
      → InTurnBelow xs ys d out i → x ≡ get_or xs i d → y ≡ get_or ys i d → InTurnBelow xs ys d (set (set out (2 * i) x) (2 * i + 1) y) (i + 1)
  in_turn-more xs ys d out i x y h l lo b ex ey =
      let s : ℕ → A = λ k. get_or (interleave xs ys) k d in
      let first : 2 * i < length out = omega arith in
      let second : 2 * i + 1 < length (set out (2 * i) x) = omega (arith, length-set out (2 * i) x) in
      let next : 2 * i + 1 + 1 ≡ 2 * (i + 1) = omega arith in
      subst (HoldsBelow s d (set (set out (2 * i) x) (2 * i + 1) y)) next
      (holds-more s d (set out (2 * i) x) (2 * i + 1) y second (holds-more s d out (2 * i) x first b (ex ∙ sym (at-even xs ys i d h l))) (ey ∙ sym (at-odd xs ys i d h l)))

  pub in_turn-all : (xs ys : List A) (d : A) (out : List A) (i : ℕ) → length xs ≡ length ys → length xs ≤ i → length out ≡ length xs + length xs
      → InTurnBelow xs ys d out i → out ≡ interleave xs ys
  in_turn-all xs ys d out i h l lo b =
      ext_get_or d out (interleave xs ys) (lo ∙ sym (length-interleave xs ys h)) (λ k w. b k (omega arith))

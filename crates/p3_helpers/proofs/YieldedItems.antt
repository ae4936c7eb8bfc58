-- What the runs of an iterator give, where every run gives one list.
use Rattle.std.proofs.Common.{◌≡◌, List, [], ◌∷◌, ◌++◌, Option, None, ◌⊎◌, inl, inr, true, length, map, refl, sym, ap, ap₂, subst, ◌∙◌, arith, append-nil}
use Rattle.std.specs.Prelude.{reverse}
use Rattle.std.specs.Iterator.{Yields, AlwaysYields}
use Rattle.std.specs.Iterator.Runs.{Run}
use Rattle.std.proofs.iter.runs.Made.{took}
use Rattle.std.proofs.lemmas.List.{reverse-reverse}
use Rattle.p3_theory.specs.Rings.Ring.{Ops}
use Rattle.p3_theory.specs.Rings.DotProduct.{dot}
use Rattle.p3_helpers.specs.PairedRuns.{EndsWithShorter}

module _ {S A : Type 0} (steps : S → Option A → S → Type 0) where
  -- what has come is a beginning of the list, and the rest is still to come
  begins : (xs ys : List A) (s t : S) → Yields steps s xs t → AlwaysYields steps (λ x. x) s ys → (rest : List A) × (ys ≡ xs ++ rest) × AlwaysYields steps (λ x. x) t rest
  begins [] ys s t h a = (ys, refl, let P : S → Type 0 = λ k. AlwaysYields steps (λ x. x) k ys in subst P h a)
  begins (x ∷ xs) [] s t h a = absurd (a x h.0 h.1)
  begins (x ∷ xs) (y ∷ ys) s t h a =
      let first = a.1 x h.0 h.1 in
      let later = begins xs ys h.0 t h.2 first.1 in
      (later.0, ap₂ (λ z l. z ∷ l) (sym first.0) later.1, later.2)

  nothing_left : (rest : List A) (t u : S) → AlwaysYields steps (λ x. x) t rest → steps t None u → rest ≡ []
  nothing_left [] t u a h = refl
  nothing_left (y ∷ ys) t u a h = absurd (a.0 u h)

  -- a run gave a beginning of the list, and the whole of it where it went on to its end
  pub run_begins : (p : Run steps) (s : S) → p.from ≡ s → (ys : List A) → AlwaysYields steps (λ x. x) s ys
      → (rest : List A) × (ys ≡ p.items ++ rest) × (p.whole ≡ true → rest ≡ [])
  run_begins p s e ys a =
      let P : S → Type 0 = λ k. AlwaysYields steps (λ x. x) k ys in
      let taken = took p in
      let found = begins p.items ys p.from taken.0 taken.1 (subst P (sym e) a) in
      (found.0, found.1, λ w. let last = taken.2 w in nothing_left found.0 taken.0 last.0 found.2 last.1)

  pub whole_run : (p : Run steps) (s : S) → p.from ≡ s → p.whole ≡ true → (ys : List A) → AlwaysYields steps (λ x. x) s ys → p.items ≡ ys
  whole_run p s e w ys a =
      let found = run_begins p s e ys a in
      sym (found.1 ∙ ap (λ l. p.items ++ l) (found.2 w) ∙ append-nil p.items)

  -- a whole run from the end of a list gave the list, the last item first
  pub reversed_run : (p : Run steps) (s : S) → p.from ≡ s → p.whole ≡ true → (ys : List A) → AlwaysYields steps (λ x. x) s (reverse ys) → reverse p.items ≡ ys
  reversed_run p s e w ys a = ap reverse (whole_run p s e w (reverse ys) a) ∙ reverse-reverse ys

module _ {A B : Type 0} (O : Ops A) (e : B → A) where
  dot-nil : (xs : List A) → dot O xs [] ≡ O.zero
  dot-nil [] = refl
  dot-nil (x ∷ xs) = refl

  -- a dot product ends with the shorter list
  pub dot-shorter : (xs more : List A) (ys others : List B) → length xs ≡ length ys → (more ≡ []) ⊎ (others ≡ [])
      → dot O (xs ++ more) (map e (ys ++ others)) ≡ dot O xs (map e ys)
  dot-shorter [] more [] others h (inl n) = ap (λ l. dot O l (map e others)) n
  dot-shorter [] more [] others h (inr n) = ap (λ l. dot O more (map e l)) n ∙ dot-nil more
  dot-shorter [] more (y ∷ ys) others h n = absurd (omega arith)
  dot-shorter (x ∷ xs) more [] others h n = absurd (omega arith)
  dot-shorter (x ∷ xs) more (y ∷ ys) others h n = ap (O.add (O.mul x (e y))) (dot-shorter xs more ys others (omega arith) n)

  -- runs side by side until the shorter ended have the dot product of the lists
  pub dot-runs : {S T : Type 0} {left : S → Option A → S → Type 0} {right : T → Option B → T → Type 0} (p : Run left) (q : Run right) (s : S) (t : T)
      → p.from ≡ s → q.from ≡ t → EndsWithShorter left right p q → (xs : List A) (ys : List B) → AlwaysYields left (λ x. x) s xs → AlwaysYields right (λ y. y) t ys
      → dot O p.items (map e q.items) ≡ dot O xs (map e ys)
  dot-runs {left = left} {right = right} p q s t f g h xs ys a b =
      let l = run_begins left p s f xs a in
      let r = run_begins right q t g ys b in
      let ended = elim h.1 as (λ _. (l.0 ≡ []) ⊎ (r.0 ≡ [])) [ inl w ↦ inl (l.2 w) | inr w ↦ inr (r.2 w) ] in
      sym (ap₂ (λ us vs. dot O us (map e vs)) l.1 r.1 ∙ dot-shorter p.items l.0 q.items r.0 (sym p.long ∙ h.0 ∙ q.long) ended)

-- Two iterators that are read side by side.
use Rattle.std.specs.Prelude.{◌≡◌, ◌⊎◌, true, Option, List}
use Rattle.std.specs.Iterator.{AlwaysYields}
use Rattle.std.specs.Iterator.Runs.{Run, SomeRun}

module _ {S T A B : Type 0} (left : S → Option A → S → Type 0) (right : T → Option B → T → Type 0) where
  -- the runs gave equally many items, and one of them went on to its end
  abbrev pub EndsWithShorter : Run left → Run right → Type 0
  EndsWithShorter p q = (p.len ≡ q.len) × ((p.whole ≡ true) ⊎ (q.whole ≡ true))

  -- P holds of the items that s and t gave until the shorter ended
  abbrev pub RunInPairs : S → T → (List A → List B → Type 0) → Type 0
  RunInPairs s t P = SomeRun left s (λ p. SomeRun right t (λ q. EndsWithShorter p q × P p.items q.items))

  -- where every run from s gives xs and every run from t gives ys, P holds of xs and ys
  abbrev pub IfBothYield : S → T → (List A → List B → Type 0) → Type 0
  IfBothYield s t P = (xs : List A) (ys : List B) → AlwaysYields left (λ x. x) s xs → AlwaysYields right (λ y. y) t ys → P xs ys

-- An iterator that is read from its end, as the list of its items in order.
use Rattle.std.specs.Prelude.{Option, List, reverse}
use Rattle.std.specs.Iterator.{AlwaysYields}
use Rattle.std.specs.Iterator.Runs.{WholeRun}

module _ {S A : Type 0} (steps : S → Option A → S → Type 0) where
  -- P holds of the items that calls from s gave until the end, the last item first
  abbrev pub RunsBackward : S → (List A → Type 0) → Type 0
  RunsBackward s P = WholeRun steps s (λ p. P (reverse p.items))

  -- where every run from s gives the items of xs, the last item first, P holds of xs
  abbrev pub IfYieldsBackward : S → (List A → Type 0) → Type 0
  IfYieldsBackward s P = (xs : List A) → AlwaysYields steps (λ x. x) s (reverse xs) → P xs

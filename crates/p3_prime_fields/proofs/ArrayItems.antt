-- The items that are left of an array.
use Rattle.std.proofs.Common.{◌≡◌, ℕ, List, subst}
use Rattle.std.specs.Array.Iter.{array_into_iter_items, array_steps}
use Rattle.std.specs.declared.array.IntoIter.{IntoIter}
use Rattle.std.proofs.lemmas.Iterator.Consumers.{YieldsList-from_shown}
use Rattle.p3_extension_traits.specs.Streams.{YieldsExactly}

-- an array's iterator gives the items that are left, in order
pub array_yields : {A : Type 0} {n : ℕ} (it : IntoIter A n) (xs : List A) → array_into_iter_items it ≡ xs → YieldsExactly (array_steps {A = A} {n = n}) it xs
array_yields {A} {n} it xs e = subst (YieldsExactly (array_steps {A = A} {n = n}) it) e (YieldsList-from_shown array_steps (λ x. x) array_into_iter_items (λ s t h. h.0) (λ s x t h. h) it)

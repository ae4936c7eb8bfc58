-- Sums and products whose items and value are of two types.
use Rattle.std.specs.Prelude.{◌≡◌, List}

-- `sum` or `product` may be taken of any items, and answers the value that f makes of their list
pub record FoldsInto {A B : Type 0} (can : List A → Type 0) (gives : List A → B → Type 0) (complete : B → Type 0) (f : List A → B) : Type 0 where
  pub callable : (xs : List A) → can xs
  pub exact : (xs : List A) (r : B) → gives xs r → r ≡ f xs
  pub whole : (r : B) → complete r

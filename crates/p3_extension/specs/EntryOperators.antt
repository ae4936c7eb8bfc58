-- The operators of values, given coefficient by coefficient, as the operations of their ring.
use Rattle.std.specs.Prelude.{◌<◌, ℕ, List, get_or}
use Rattle.p3_theory.specs.Rings.Ring.{Ops, subtract}
use Rattle.p3_theory.specs.Rings.Operators.{Gives}
use Rattle.p3_extension.specs.Values.{ext_ops, is_sum, is_difference}
use Rattle.p3_extension.specs.declared.extension.ext_field.ExtField.{ExtField}

module _ {F : Type 0} {D : ℕ} {S A : Type 0} (o : Ops A) (f : List A) (can : A → A → Type 0) (gives : A → A → A → Type 0) where
  -- what may be called at each pair of coefficients
  abbrev can_each : ExtField F D S A → ExtField F D S A → Type 0
  can_each x y = (d : A) (k : ℕ) → k < D → can (get_or x.value k d) (get_or y.value k d)

  -- what each pair of coefficients gives
  abbrev gives_each : ExtField F D S A → ExtField F D S A → ExtField F D S A → Type 0
  gives_each x y r = (d : A) (k : ℕ) → k < D → gives (get_or x.value k d) (get_or y.value k d) (get_or r.value k d)

  pub sums_of_values : Gives can gives o.add → Gives can_each gives_each (ext_ops o f).add
  sums_of_values h = record { callable = λ _ _ _ _ _. h.callable _ _; exact = λ x y r g. is_sum o f gives h.exact x y r g }

  pub differences_of_values : Gives can gives (subtract o) → Gives can_each gives_each (subtract (ext_ops {F = F} {D = D} {S = S} o f))
  differences_of_values h = record { callable = λ _ _ _ _ _. h.callable _ _; exact = λ x y r g. is_difference o f gives h.exact x y r g }

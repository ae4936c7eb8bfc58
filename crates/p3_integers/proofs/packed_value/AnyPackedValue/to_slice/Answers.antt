use Rattle.std.proofs.Common.{◌≡◌, List, length, slice_set, [], ◌∷◌, refl, arith}
use Rattle.p3_integers.proofs.packed_value.AnyPackedValue.to_slice.Goals as goal

single : {A : Type 0} (xs : List A) (x : A) → length xs ≡ 1 → slice_set xs 0 x ≡ x ∷ []
single [] x h = absurd (omega arith)
single (y ∷ []) x h = refl
single (y ∷ z ∷ ys) x h = absurd (omega arith)

pub returns : goal.returns
returns g c = single _ _ c.requires

-- The fields of a vector of packings.
use Rattle.std.specs.Prelude.{◌≡◌, ℕ, List, length}
use Rattle.std.proofs.Common.{ap}
use Rattle.p3_theory.specs.Lanes.Rows.{fit, fit_same}
use Rattle.p3_vectorized.specs.declared.packing_vector.PackingVector.TheInside as Fields

-- packings as a vector
abbrev pub inside_by : {S T A : Type 0} {n : ℕ} → List A → Fields.Inside S T A n
inside_by xs = record { 0 = xs; 1 = record {} }

pub same_inside : {S T A : Type 0} (z : A) (n : ℕ) (a : Fields.Inside S T A n) → length a.0 ≡ n → inside_by {S = S} {T = T} {A = A} {n = n} (fit z n a.0) ≡ a
same_inside {S = S} {T = T} {A = A} z n a h = ap (inside_by {S = S} {T = T} {A = A} {n = n}) (fit_same z n a.0 h)

-- Tables of the points of small cosets.
use Rattle.std.specs.Prelude.{◌≡◌, ◌<◌, ◌≤◌, ◌+◌, ◌^◌, ℕ, List, length}
use Rattle.p3_field.specs.Ring.{Ops}
use Rattle.p3_field.specs.Powers.{power}
use Rattle.p3_field.specs.GeometricSequence.{geometric_term}
use Rattle.p3_field.specs.Polynomial.{at}

-- squared e times the points of the coset of this shift, two to the n of them, are two to the j + 1: where the table is
-- as long, the first half of them stands in it at the indices from 2^j on
abbrev pub IsPointTable : {A : Type 0} → Ops A → (ℕ → A) → A → ℕ → List A → Type 0
IsPointTable O g shift n table =
    (e j i : ℕ) → e + j + 1 ≡ n → 2 ^ (j + 1) ≤ length table → i < 2 ^ j → at O table (2 ^ j + i) ≡ geometric_term O (g (j + 1)) (power O shift (2 ^ e)) i

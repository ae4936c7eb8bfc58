-- Accumulators that are fewer than the scales of a row.
use Rattle.std.specs.Prelude.{◌≡◌, ◌<◌, ◌*◌, ◌/◌, ℕ, min, List, length, refl}
use Rattle.std.proofs.Common.{arith, ap}
use Rattle.std.proofs.lemmas.Nat.{div_below}
use Rattle.p3_theory.specs.Rings.Ring.{Ops, RingLaws}
use Rattle.p3_theory.specs.Rings.ColumnwiseProducts.{add_scaled_row, column-end}
use Rattle.p3_theory.specs.Lists.TabulatedEntries.{updated-none}
use Rattle.p3_theory.specs.Rings.ColumnwiseProducts.{entry_after_row}

-- a row with more scales than there are accumulators adds nothing
pub no_group : {A F : Type 0} {O : Ops A} (l : RingLaws O) (e : F → A) (N : ℕ) (acc scales : List A) (row : List F) → length acc < N → acc ≡ add_scaled_row O e N acc row scales
no_group {O = O} l e N acc scales row h =
    column-end l e N acc acc scales row 0 (omega (arith, h)) place refl (updated-none (entry_after_row O e N acc row scales) O.zero acc)
  where
    none : length acc / N < 1
    none = div_below (length acc) N 1 (omega (arith, h)) (omega (arith, h))

    groups : min (length acc / N) (length row) ≡ 0
    groups = omega (arith, none)

    place : 0 ≡ min (length acc / N) (length row) * N
    place = omega (arith, ap (λ g. g * N) groups)

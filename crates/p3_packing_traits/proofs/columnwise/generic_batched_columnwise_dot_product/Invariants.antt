use Rattle.std.proofs.Common.{◌≡◌, map}
use Rattle.p3_theory.specs.Rings.ColumnwiseProducts.{add_scaled_rows}
use Rattle.p3_packing_traits.proofs.columnwise.generic_batched_columnwise_dot_product.Given as goal

abbrev pub invariant-loop-row : goal.invariant-loop-row
invariant-loop-row g l =
    (goal.iterator-loop-row g).can_next l.row-iterator × (goal.iterator-loop-row g).is_finite l.row-iterator
    × (l.acc ≡ add_scaled_rows g.PE.PrimeCharacteristicRing.ops g.PE.Algebra-1.embed g.row.N l.fn.acc (map (λ x. (g.R.AsSlice.items x.0, map g.PE.Algebra-2.embed (g.S.AsRow.entries x.1))) l.yielded))

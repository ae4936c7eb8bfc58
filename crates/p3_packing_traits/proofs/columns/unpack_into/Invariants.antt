use Rattle.std.proofs.Common.{◌≡◌, ◌<◌, ℕ, get_or, slice_get, Some}
use Rattle.p3_packing_traits.specs.Columns.{column}
use Rattle.p3_packing_traits.proofs.columns.unpack_into.Given as goal

abbrev pub invariant-loop-l : goal.invariant-loop-l
invariant-loop-l g l =
    (p : g.row.P.Denot) (d : g.row.P-Value.Denot) (c : ℕ) → c < g.row.N → (k : ℕ) → k < l.l → slice_get (g.P.PackedValue.lanes (get_or l.packed c p)) k ≡ Some (get_or (column d c l.rows) k d)

use Rattle.std.proofs.Common.{◌≡◌, ℕ, get_or, slice_get, Some, arith}
use Rattle.p3_packing_traits.specs.Columns.{written_below}
use Rattle.p3_packing_traits.proofs.ext_columns.unpack_ext_into.Goals as goal

pub loop-l-init : goal.loop-l-init
loop-l-init g c p d i _ k h = absurd (omega (arith, h))

pub loop-l-preserved : goal.loop-l-preserved
loop-l-preserved g c p d i inside =
    let Holds : ℕ → g.row.EF.Denot → Type 0 = λ k y. slice_get (g.PE.ExtensionLanes.ext_lanes (get_or c.args.packed.now i p)) k ≡ Some y in
    written_below Holds d i c.loop-l.l c.loop-l.rows c.unpacked_ext_row.result (omega arith) (c.unpacked_ext_row.ensures p d i inside) (c.loop-l.invariant p d i inside)

pub returns : goal.returns
returns g c p d i k inside below = c.loop-l.invariant p d i inside k (omega (arith, below))

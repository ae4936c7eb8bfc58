use Rattle.std.proofs.Common.{slice_index, arith}
use Rattle.p3_packing_traits.specs.ParallelStreams.{map-by_indices}
use Rattle.p3_packing_traits.proofs.parallel_streams.column_bytes.Goals as goal

pub returns : goal.returns
returns g c =
    map-by_indices (λ row. slice_index row c.args.j) c.args.rows.now _ (omega (arith, c.loop-i.invariant.long, c.told-rows))
    (λ k d h. c.loop-i.invariant.read k d (omega (arith, c.told-rows)))

use Rattle.std.proofs.Common.{slice_index, arith}
use Rattle.p3_packing_traits.specs.ParallelStreams.{map-by_indices}
use Rattle.p3_packing_traits.proofs.parallel_streams.bytes_at.Goals as goal

pub returns : goal.returns
returns g c = map-by_indices (λ x. slice_index (g.F.RawDataSerializable.bytes x) c.args.i) c.args.values.now _ (omega (arith, c.loop-j.invariant.long, c.told-values)) (λ k d h. c.loop-j.invariant.read k d (omega (arith, c.told-values)))

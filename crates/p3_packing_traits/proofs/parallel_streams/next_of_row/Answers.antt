use Rattle.std.proofs.Common.{map, slice_index, arith, ap, ap₂, sym, ◌∙◌, ◌+◌, ◌∷◌}
use Rattle.p3_extension_traits.specs.Streams.{row_bytes, left_of}
use Rattle.p3_packing_traits.specs.ParallelStreams.{left_at, left_past}
use Rattle.p3_packing_traits.proofs.parallel_streams.next_of_row.Goals as goal

pub returns-then-at-NUM_BYTES-clause-next : goal.returns-then-at-NUM_BYTES-clause-next
returns-then-at-NUM_BYTES-clause-next g c = rw c.in-Some.is (left_past g.F.RawDataSerializable.NUM_BYTES _ c.args.at.now (omega (arith, c.if-at-NUM_BYTES.true, c.NUM_BYTES.ensures)))

pub returns-clause-next : goal.returns-clause-next
returns-clause-next g c =
    let f = g.F.RawDataSerializable in
    let parts = row_bytes f.bytes f.NUM_BYTES in
    let at = c.args.at.now in
    ap (λ row. left_of parts row at) c.in-Some.is
    ∙ left_at f.NUM_BYTES (λ i. map (λ x. slice_index (f.bytes x) i) c.in-Some.values) at (omega (arith, c.if-at-NUM_BYTES.false, c.NUM_BYTES.ensures))
    ∙ ap₂ (λ bytes rest. bytes ∷ rest) (sym c.bytes_at-bytes.ensures) (sym (ap (λ row. left_of parts row (at + 1)) c.in-Some.is))

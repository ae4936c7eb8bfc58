use Rattle.std.proofs.Common.{◌≡◌, ◌≤◌, ◌+◌, ◌*◌, length}
use Rattle.std.specs.Iterator.{IsFinite, size}
use Rattle.p3_extension_traits.specs.Streams.{row_bytes, left_of}
use Rattle.p3_extension_traits.specs.DrawnItems.{HasDrawn}
use Rattle.p3_packing_traits.proofs.parallel_streams.ParallelByteStreamsIterator.next.Given as goal

abbrev pub invariant-loop-bytes : goal.invariant-loop-bytes
invariant-loop-bytes g l =
    let source = g.I.Iterator in
    let f = g.F.RawDataSerializable in
    let parts = row_bytes f.bytes f.NUM_BYTES in
    let held = left_of parts l.self.row l.self.at in
    let old = left_of parts l.initial.self.row l.initial.self.at in
    record {
      ready : source.can_next l.self.source;
      finite : IsFinite (source.remaining l.self.source);
      nearer : length held + f.NUM_BYTES * size (source.remaining l.self.source) ≤ length old + f.NUM_BYTES * size (source.remaining l.initial.self.source);
      drawn : HasDrawn source.next_gives parts l.initial.self.source old l.self.source (λ rest. held ≡ rest);
    }

abbrev pub decreases-loop-bytes : goal.decreases-loop-bytes
decreases-loop-bytes g l = size (g.I.Iterator.remaining l.self.source)

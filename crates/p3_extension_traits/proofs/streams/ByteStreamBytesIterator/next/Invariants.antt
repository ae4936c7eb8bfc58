use Rattle.std.proofs.Common.{◌≤◌, ◌+◌, ◌*◌, ℕ, List}
use Rattle.std.specs.Iterator.{IsFinite, size}
use Rattle.std.specs.Option.{ForSome}
use Rattle.std.specs.Iterator.Adapters.{inner_items_left}
use Rattle.p3_extension_traits.specs.Streams.{HoldsBytes}
use Rattle.p3_extension_traits.specs.DrawnItems.{HasDrawn}
use Rattle.p3_extension_traits.proofs.streams.ByteStreamBytesIterator.next.Given as goal

abbrev pub invariant-loop-byte : goal.invariant-loop-byte
invariant-loop-byte g l =
    let source = g.I.Iterator in
    let reader = g.F.Bytes.Iterator in
    let bytes = g.F.RawDataSerializable in
    record {
      ready : source.can_next l.self.source;
      finite : IsFinite (source.remaining l.self.source);
      held : ForSome l.self.reader (λ j. reader.can_next j × IsFinite (reader.remaining j));
      nearer : inner_items_left reader.remaining l.self.reader + bytes.NUM_BYTES * size (source.remaining l.self.source)
          ≤ inner_items_left reader.remaining l.initial.self.reader + bytes.NUM_BYTES * size (source.remaining l.initial.self.source);
      drawn : (bs : List ℕ) → HoldsBytes reader.next_gives l.initial.self.reader bs
          → HasDrawn source.next_gives bytes.bytes l.initial.self.source bs l.self.source (HoldsBytes reader.next_gives l.self.reader);
    }

abbrev pub decreases-loop-byte : goal.decreases-loop-byte
decreases-loop-byte g l = size (g.I.Iterator.remaining l.self.source)

use Rattle.std.proofs.Common.{rules, arith}
use Rattle.std.specs.Iterator.{size}
use Rattle.p3_extension_traits.specs.Streams.{HoldsBytes, YieldsExactly}
use Rattle.p3_extension_traits.specs.StreamLemmas.{one_more_block}
use Rattle.p3_extension_traits.specs.DrawnItems.{drawn_none, drawn_next, draws_some, draws_none, in_hand-none, in_hand-some, holds_nothing}
use Rattle.p3_extension_traits.proofs.streams.ByteStreamBytesIterator.next.Goals as goal

pub loop-byte-init : goal.loop-byte-init
loop-byte-init g c = record {
  ready = search rules;
  finite = search rules;
  held = search rules;
  nearer = omega arith;
  drawn = λ bs h. drawn_none g.I.Iterator.next_gives g.F.RawDataSerializable.bytes _ bs (HoldsBytes g.F.Bytes.Iterator.next_gives c.args.self.now.reader) h;
}

pub returns-in-Some-clause-steps : goal.returns-in-Some-clause-steps
returns-in-Some-clause-steps g c = λ held h.
    let inner = g.F.Bytes.Iterator.next_gives in
    draws_some g.I.Iterator.next_gives g.F.RawDataSerializable.bytes _ _ held _ (HoldsBytes inner c.loop-byte.self.reader) (HoldsBytes inner c.next_in_hand.new.reader) (c.loop-byte.invariant.drawn held h)
    (in_hand-some inner _ _ _ c.in-Some.ensures.steps)

pub returns-in_default-next-clause-steps : goal.returns-in_default-next-clause-steps
returns-in_default-next-clause-steps g c = λ held h.
    let inner = g.F.Bytes.Iterator.next_gives in
    draws_none g.I.Iterator.next_gives g.F.RawDataSerializable.bytes _ _ _ held (HoldsBytes inner c.loop-byte.self.reader) (HoldsBytes inner c.next_in_hand.new.reader) (c.loop-byte.invariant.drawn held h)
    (in_hand-none inner c.loop-byte.self.reader c.next_in_hand.new.reader c.in_default.ensures.steps) c.in_default-next.ensures.steps (holds_nothing inner c.next_in_hand.new.reader c.in_default.ensures.ended)

pub loop-byte-preserved : goal.loop-byte-preserved
loop-byte-preserved g c =
    let left = g.I.Iterator.remaining in
    let inner = g.F.Bytes.Iterator.next_gives in
    let now = c.loop-byte.self.source in
    let later = c.in-Some-next.ensures.goes.on c.loop-byte.invariant.finite in
    record {
      ready = later.0;
      finite = later.1;
      held = search rules;
      nearer = omega (arith, one_more_block g.F.RawDataSerializable.NUM_BYTES (size (left c.next.new.self)) (size (left now)) later.2, c.into_bytes.ensures.count.1, c.loop-byte.invariant.nearer);
      drawn = λ bs h. drawn_next g.I.Iterator.next_gives g.F.RawDataSerializable.bytes _ _ _ bs _ (HoldsBytes inner c.loop-byte.self.reader) (λ l. YieldsExactly inner c.into_bytes.result l) (c.loop-byte.invariant.drawn bs h)
          (in_hand-none inner c.loop-byte.self.reader c.next_in_hand.new.reader c.in_default.ensures.steps) c.in-Some-next.ensures.steps c.into_bytes.ensures.all;
    }

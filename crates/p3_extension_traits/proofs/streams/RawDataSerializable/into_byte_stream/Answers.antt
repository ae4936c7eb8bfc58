use Rattle.std.proofs.Common.{[], refl}
use Rattle.p3_extension_traits.specs.Streams.{HoldsBytes}
use Rattle.p3_extension_traits.specs.DrawnItems.{YieldsExactly-drawn, Drains-drawn}
use Rattle.p3_extension_traits.proofs.streams.RawDataSerializable.into_byte_stream.Goals as goal

pub returns-clause-all : goal.returns-clause-all
returns-clause-all g c = λ xs y.
    YieldsExactly-drawn g.I.Iterator.next_gives g.Self.RawDataSerializable.bytes _ (λ s. s.source) (λ s held. HoldsBytes g.Self.Bytes.Iterator.next_gives s.reader held) (λ s t r h. h) xs _ [] refl y

pub returns-clause-drawn : goal.returns-clause-drawn
returns-clause-drawn g c = record {
  runs = λ bs d. Drains-drawn g.I.Iterator.next_gives g.Self.RawDataSerializable.bytes _ (λ s. s.source) (λ s held. HoldsBytes g.Self.Bytes.Iterator.next_gives s.reader held) (λ s t r h. h) bs _ [] refl d;
}

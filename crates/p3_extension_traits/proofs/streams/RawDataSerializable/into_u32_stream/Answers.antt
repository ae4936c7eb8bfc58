use Rattle.std.proofs.Common.{arith, refl, ap}
use Rattle.p3_extension_traits.specs.Streams.{byte_stream, word_stream, little_endian}
use Rattle.p3_extension_traits.specs.StreamLemmas.{YieldsExactly-groups, YieldsExactly-read}
use Rattle.p3_extension_traits.specs.DrawnItems.{DrawnFrom-groups}
use Rattle.p3_extension_traits.proofs.streams.RawDataSerializable.into_u32_stream.Goals as goal

pub returns-clause-all : goal.returns-clause-all
returns-clause-all g c = λ xs y.
    YieldsExactly-read little_endian _ _ (λ s. s) (λ s t r h. h) _ _
    (YieldsExactly-groups _ _ 4 0 (λ s. s.is_over) (λ s. s.source) (λ s t r h. h) (byte_stream g.Self.RawDataSerializable.bytes xs) _ (omega arith) refl
    (c.into_byte_stream.ensures.all xs y))

pub returns-clause-drawn : goal.returns-clause-drawn
returns-clause-drawn g c = DrawnFrom-groups little_endian 4 0 (λ s. s.is_over) (λ s. s.source) (λ s t r h. h) (omega arith) refl (λ bs xs e. ap (word_stream 4) e) c.into_byte_stream.ensures.drawn

use Rattle.std.specs.Array.Iter.{array_into_iter_items, array_steps}
use Rattle.p3_extension_traits.specs.StreamLemmas.{YieldsExactly-from_list}
use Rattle.p3_extension.proofs.extension.streams.ExtFieldRawDataSerializable.into_bytes.Goals as goal

pub returns-clause-all : goal.returns-clause-all
returns-clause-all g c =
    c.into_byte_stream.ensures.all c.args.self.value (YieldsExactly-from_list array_steps array_into_iter_items (λ s t h. h.0) (λ s t y h. h) _ _ c.into_iter-coefficients.ensures.into_iter_gives.0)

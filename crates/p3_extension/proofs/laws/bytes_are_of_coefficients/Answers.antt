use Rattle.p3_extension_traits.specs.StreamLemmas.{byte_stream-parts}
use Rattle.p3_extension.proofs.laws.bytes_are_of_coefficients.Goals as goal

pub returns : goal.returns
returns g c = byte_stream-parts g.F.RawDataSerializable.bytes (λ x. x.value) c.args.xs.now

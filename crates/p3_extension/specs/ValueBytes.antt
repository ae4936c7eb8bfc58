-- The bytes of values: those of their coefficients.
use Rattle.std.specs.Prelude.{◌≡◌, ◌*◌, ℕ, List, length}
use Rattle.std.proofs.Common.{ap, ◌∙◌}
use Rattle.p3_extension_traits.specs.Streams.{byte_stream}
use Rattle.p3_extension_traits.specs.StreamLemmas.{length-byte_stream}
use Rattle.p3_extension.specs.declared.extension.ext_field.ExtField.{ExtField}

-- a value has D times as many bytes as a coefficient
pub byte_count : {F S A : Type 0} {D m : ℕ} → (bytes : A → List ℕ) → ((a : A) → length (bytes a) ≡ m) → (x : ExtField F D S A) → length (byte_stream bytes x.value) ≡ m * D
byte_count {m = m} bytes h x = length-byte_stream bytes m h x.value ∙ ap (λ k. m * k) x.sized

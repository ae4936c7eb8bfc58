use Rattle.std.proofs.Common.{◌∙◌, ap}
use Rattle.std.specs.Int.{w32, to_le_bytes}
use Rattle.p3_prime_fields.proofs.ArrayItems.{array_yields}
use Rattle.p3_prime_fields.proofs.fp.FpRawDataSerializable.into_bytes.Goals as goal

pub returns-clause-all : goal.returns-clause-all
returns-clause-all g c = array_yields c.into_iter.result _ (c.into_iter.ensures.into_iter_gives.0 ∙ c.to_le_bytes.ensures ∙ ap (to_le_bytes w32) c.to_unique_u32.ensures)

use Rattle.std.proofs.Common.{rules, ◌∙◌}
use Rattle.p3_extension_traits.specs.StreamLemmas.{from_bytes}
use Rattle.p3_packing_traits.proofs.parallel_streams.U32WordOfBytes4.of_bytes.Goals as goal

pub returns : goal.returns
returns c = c.from_le_bytes.ensures ∙ from_bytes 3 c.args.bytes (search rules)

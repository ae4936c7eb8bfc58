use Rattle.std.proofs.Common.{rules}
use Rattle.std.proofs.lemmas.Slice.{overwrites}
use Rattle.p3_integers.proofs.packed_value.PackedValue.store_block.Goals as goal

pub returns-clause-after : goal.returns-clause-after
returns-clause-after g c = search (rules, overwrites)

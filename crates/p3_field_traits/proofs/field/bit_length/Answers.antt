use Rattle.std.proofs.Common.{arith}
use Rattle.p3_theory.specs.ResidueRings.BitLength.{bit_length_by_zeros}
use Rattle.p3_field_traits.proofs.field.bit_length.Goals as goal

pub returns : goal.returns
returns c = bit_length_by_zeros 128 c.args.n (omega arith)

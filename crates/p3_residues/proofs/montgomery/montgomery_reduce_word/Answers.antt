use Rattle.std.proofs.Common.{◌*◌, ◌^◌}
use Rattle.p3_residues.proofs.Reductions.{without_multiple}
use Rattle.p3_residues.proofs.montgomery.montgomery_reduce_word.Goals as goal

pub returns-clause-value : goal.returns-clause-value
returns-clause-value c = without_multiple c.args.order (c.subtract_multiple.result * 2 ^ 32) c.multiple_with_end-multiple.result c.args.number c.multiple_with_end-multiple.ensures.multiple c.subtract_multiple.ensures.value

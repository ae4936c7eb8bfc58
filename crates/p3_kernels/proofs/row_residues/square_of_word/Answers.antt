use Rattle.std.proofs.Common.{arith}
use Rattle.std.proofs.Math.Nat.{mod-lt}
use Rattle.p3_kernels.proofs.SumReductions.{square_is}
use Rattle.p3_kernels.proofs.row_residues.square_of_word.Goals as goal

pub returns-clause-most : goal.returns-clause-most
returns-clause-most c = let l = mod-lt 18446744073709551615 c.requires in omega (arith, l)

pub returns-clause-value : goal.returns-clause-value
returns-clause-value c = square_is c.args.order

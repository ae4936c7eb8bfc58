use Rattle.std.proofs.Common.{◌^◌}
use Rattle.p3_residues.specs.Montgomery.{difference_of_words}
use Rattle.p3_prime_fields.proofs.montgomery.MontgomeryFormU32.difference.Goals as goal

pub returns-clause-value : goal.returns-clause-value
returns-clause-value g c =
    difference_of_words g.M.MontgomeryModulus.ORDER (2 ^ 32) g.M.MontgomeryModulus.SCALE_INVERSE c.subtract_words.result c.args.left c.args.right
    c.requires.right (rw c.ORDER.ensures at c.subtract_words.ensures.value)

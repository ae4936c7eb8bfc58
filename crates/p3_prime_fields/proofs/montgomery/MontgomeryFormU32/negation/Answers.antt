use Rattle.std.proofs.Common.{◌^◌}
use Rattle.p3_residues.specs.Montgomery.{negation_of_word}
use Rattle.p3_prime_fields.proofs.montgomery.MontgomeryFormU32.negation.Goals as goal

pub returns-clause-value : goal.returns-clause-value
returns-clause-value g c =
    negation_of_word g.M.MontgomeryModulus.ORDER (2 ^ 32) g.M.MontgomeryModulus.SCALE_INVERSE c.negate_word.result c.args.stored
    c.requires (rw c.ORDER.ensures at c.negate_word.ensures.value)

use Rattle.std.proofs.Common.{◌^◌}
use Rattle.p3_residues.specs.Montgomery.{half_of_word}
use Rattle.p3_prime_fields.proofs.montgomery.MontgomeryFormU32.half.Goals as goal

pub returns-clause-half : goal.returns-clause-half
returns-clause-half g c =
    half_of_word g.M.MontgomeryModulus.ORDER (2 ^ 32) g.M.MontgomeryModulus.SCALE_INVERSE c.halve_word.result c.args.stored
    (rw c.ORDER.ensures at c.halve_word.ensures.half)

use Rattle.std.proofs.Common.{◌*◌, ◌%◌, ap, ◌∙◌}
use Rattle.std.proofs.lemmas.Nat.{mul-mod_first}
use Rattle.p3_prime_fields.proofs.montgomery.MontgomeryFormU32.reduce_sum.Goals as goal

pub returns-clause-value : goal.returns-clause-value
returns-clause-value g c =
    let order = g.M.MontgomeryModulus.ORDER in
    let inverse = g.M.MontgomeryModulus.SCALE_INVERSE in
    ap (λ z. (z * inverse) % order) (rw c.ORDER.ensures at c.remainder_of_sum.ensures) ∙ mul-mod_first c.args.words inverse order

use Rattle.std.proofs.Common.{◌*◌, ◌%◌, ◌^◌, ap₂, ◌∙◌}
use Rattle.p3_prime_fields.proofs.montgomery.reduced_sum.Goals as goal

pub montgomery_sum-requires-clause-inverse : goal.montgomery_sum-requires-clause-inverse
montgomery_sum-requires-clause-inverse g c = ap₂ (λ p i. (p * i) % 2 ^ 32) c.ORDER.ensures c.INVERSE.ensures ∙ g.M.MontgomeryModulus.inverts_order

pub returns-clause-value : goal.returns-clause-value
returns-clause-value g c = rw c.ORDER.ensures at c.montgomery_sum.ensures.value

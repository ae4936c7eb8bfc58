use Rattle.std.proofs.Common.{◌∙◌, ap, get_or}
use Rattle.std.proofs.lemmas.List.{get_or-replicate}
use Rattle.p3_packed_prime_fields.proofs.laws.default_packing_is_zero.Goals as goal

pub returns : goal.returns
returns g c = λ h d k below. ap (λ l. get_or l k d) h.2 ∙ get_or-replicate g.row.N k h.0 d below ∙ h.1

use Rattle.std.proofs.Common.{◌∙◌, ap, get_or}
use Rattle.std.proofs.lemmas.List.{get_or-replicate}
use Rattle.p3_packed_prime_fields.proofs.laws.packing_of_value_has_it_in_each_lane.Goals as goal

pub returns : goal.returns
returns g c = λ h d k below. ap (λ l. get_or l k d) h ∙ get_or-replicate g.row.N k c.args.value d below

use Rattle.std.proofs.Common.{◌∙◌, ap, get_or}
use Rattle.std.proofs.lemmas.List.{get_or-replicate}
use Rattle.p3_vectorized.proofs.array.laws.default_array_is_zero.Goals as goal

pub returns : goal.returns
returns g c zeros d k below = ap (λ l. get_or l k d) zeros ∙ get_or-replicate g.row.N k g.F.PrimeCharacteristicRing.ops.zero d below

use Rattle.std.proofs.Common.{refl}
use Rattle.std.proofs.lemmas.Slice.Eq.{slice_eq-Decides}
use Rattle.p3_packed_prime_fields.proofs.laws.packing_equality_is_of_lanes.Goals as goal

pub returns : goal.returns
returns g c = slice_eq-Decides g.met.F.Field.equals c.args.x.value c.args.y.value _ refl

use Rattle.std.proofs.Common.{refl}
use Rattle.std.proofs.lemmas.Slice.Eq.{slice_eq-Decides}
use Rattle.p3_vectorized.proofs.array.laws.array_equality_is_of_entries.Goals as goal

pub returns : goal.returns
returns g c = slice_eq-Decides g.met.F.Field.equals c.args.x.items c.args.y.items _ refl

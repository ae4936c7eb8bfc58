use Rattle.std.proofs.Common.{get_or}
use Rattle.p3_field.proofs.run_laws.vector_ext_of_vector.Goals as goal

pub returns : goal.returns
returns g c = λ from d e k w. g.met.PE.Algebra.froms (get_or c.args.v.items k d) (get_or c.args.w.items k e) (from d e k w)

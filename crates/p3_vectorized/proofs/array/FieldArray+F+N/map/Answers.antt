use Rattle.std.proofs.Common.{List, subst, sym}
use Rattle.std.specs.Array.{IsMapOf}
use Rattle.p3_vectorized.proofs.array.FieldArray+F+N.map.Goals as goal

pub returns : goal.returns
returns g c =
    let Maps : List g.row.U.Denot → Type 0 = λ ys. IsMapOf g.G.FnMut c.args.f c.args.self.items ys g.row.N in
    record { items = subst Maps (sym c.new.ensures) c.map_into_array-mapped.ensures.items }

use Rattle.std.proofs.Common.{List, subst, sym}
use Rattle.std.specs.Array.{IsFromFnResult}
use Rattle.p3_packed_prime_fields.proofs.lanes.PackedPackedValue.from_fn.Goals as goal

pub returns : goal.returns
returns g c =
    let Holds : List g.row.F.Denot → Type 0 = λ l. IsFromFnResult g.G.FnMut c.args.f l g.row.N in
    subst Holds (sym c.new.ensures) c.from_fn.ensures.items

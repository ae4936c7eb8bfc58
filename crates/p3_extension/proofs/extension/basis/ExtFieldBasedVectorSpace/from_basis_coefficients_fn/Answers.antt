use Rattle.std.proofs.Common.{List, subst, sym}
use Rattle.std.specs.Array.{IsFromFnResult}
use Rattle.p3_extension.proofs.extension.basis.ExtFieldBasedVectorSpace.from_basis_coefficients_fn.Goals as goal

pub returns : goal.returns
returns g c =
    let P : List g.row.A.Denot → Type 0 = λ l. IsFromFnResult g.G.FnMut c.args.f l g.row.D in
    subst P (sym c.new.ensures) c.from_fn.ensures.items

use Rattle.std.proofs.Common.{◌<◌, ◌∙◌, ap, arith, get_or, length}
use Rattle.std.proofs.lemmas.List.{get_or_default}
use Rattle.p3_theory.specs.Lanes.Rows.{opened}
use Rattle.p3_vectorized.proofs.array.FieldArrayIndexUsize.index.Goals as goal

pub returns : goal.returns
returns g c =
    let xs = c.self.inside.0 in
    let i = c.args.index in
    let r = get_or xs i c.index-self-index.result in
    let below : i < length xs = omega (arith, c.requires, c.self.invariant) in
    get_or_default xs i c.index-self-index.result r below ∙ ap (λ ys. get_or ys i r) (opened _ _ _ _ c.self.view_is c.self.invariant)

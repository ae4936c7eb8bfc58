use Rattle.std.proofs.Common.{◌∙◌, ap, ap₂}
use Rattle.p3_extension_formulas.proofs.binomial_extension.cubic_cubes.Goals as goal

pub returns : goal.returns
returns g c =
    let o = g.F.PrimeCharacteristicRing.ops in
    let m = g.met.F.PrimeCharacteristicRing in
    let first = m.muls.exact _ _ _ c.mul-first.ensures in
    let second = m.muls.exact _ _ _ c.mul-second.ensures ∙ ap (λ x. o.mul x c.args.squares.1) (m.muls.exact _ _ _ c.mul-w_a1.ensures) in
    let third = m.muls.exact _ _ _ c.mul-third.ensures ∙ ap (λ x. o.mul x c.args.a.2) c.square-a2_w_square.ensures in
    m.adds.exact _ _ _ c.add.ensures ∙ ap₂ o.add (m.adds.exact _ _ _ c.add-two_cubes.ensures ∙ ap₂ o.add first second) third

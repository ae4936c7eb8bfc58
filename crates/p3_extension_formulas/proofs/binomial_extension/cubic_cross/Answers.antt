use Rattle.std.proofs.Common.{◌∙◌, ap, ap₂}
use Rattle.p3_extension_formulas.proofs.binomial_extension.cubic_cross.Goals as goal

pub returns : goal.returns
returns g c =
    let o = g.F.PrimeCharacteristicRing.ops in
    let m = g.met.F.PrimeCharacteristicRing in
    let three = m.adds.exact _ _ _ c.add-three.ensures ∙ ap₂ o.add c.one.ensures c.two.ensures in
    m.muls.exact _ _ _ c.mul.ensures
    ∙ ap (λ x. o.mul x c.args.a0_a1) (m.muls.exact _ _ _ c.mul-three_a2_w.ensures ∙ ap (λ x. o.mul x c.args.a2_w) three)

use Rattle.std.proofs.Common.{◌∙◌, ap, ap₂}
use Rattle.p3_theory.specs.Rings.Ring.{subtract}
use Rattle.p3_extension_formulas.proofs.binomial_extension.cross_sum.Goals as goal

pub returns : goal.returns
returns g c =
    let o = g.A.PrimeCharacteristicRing.ops in
    let m = g.met.A.PrimeCharacteristicRing in
    let whole = m.muls.exact _ _ _ c.mul-whole.ensures ∙ ap₂ o.mul (m.adds.exact _ _ _ c.add-left.ensures) (m.adds.exact _ _ _ c.add-right.ensures) in
    let rest = m.subs.exact _ _ _ c.sub-rest.ensures ∙ ap (λ x. subtract o x c.args.outer) whole in
    m.subs.exact _ _ _ c.sub.ensures ∙ ap (λ x. subtract o x c.args.inner) rest

use Rattle.std.proofs.Common.{◌∙◌, [], ◌∷◌, ap}
use Rattle.p3_theory.specs.Rings.Ring.{ring_of}
use Rattle.p3_theory.specs.Rings.DotProduct.{dot}
use Rattle.p3_theory.specs.Lists.ListItems.{items_are}
use Rattle.p3_theory.specs.Inverses.QuadraticNorm.{quadratic_found, quadratic_absent}
use Rattle.p3_extension_formulas.proofs.binomial_extension.quadratic_inv.Goals as goal

pub returns-in_default-clause-none : goal.returns-in_default-clause-none
returns-in_default-clause-none g c = λ _.
    let o = g.F.PrimeCharacteristicRing.ops in
    let m = g.met.F.PrimeCharacteristicRing in
    let a0 = c.index-a-0.result in
    let neg = m.negs.exact _ _ c.neg-neg_a1.ensures in
    let high = m.muls.exact _ _ _ c.mul-w_a1.ensures in
    quadratic_absent (ring_of m.ring) c.args.w c.args.a.now a0 c.index-a-1.result c.array_dot_product-norm.result
    (items_are c.args.a.now (a0 ∷ c.index-a-1.result ∷ []) c.requires.input (c.index-a-0.is, (c.index-a-1.is, tt)))
    (c.array_dot_product-norm.ensures ∙ (λ i. dot o (a0 ∷ neg i ∷ []) (a0 ∷ high i ∷ []))) c.in_default.ensures

pub returns-clause-inverse : goal.returns-clause-inverse
returns-clause-inverse g c = λ _.
    let o = g.F.PrimeCharacteristicRing.ops in
    let m = g.met.F.PrimeCharacteristicRing in
    let a0 = c.index-a-0.result in
    let neg = m.negs.exact _ _ c.neg-neg_a1.ensures in
    let high = m.muls.exact _ _ _ c.mul-w_a1.ensures in
    let c0 = m.muls.exact _ _ _ c.mul-c0.ensures in
    let c1 = m.muls.exact _ _ _ c.mul-c1.ensures ∙ ap (λ z. o.mul z c.in-Some.scalar) neg in
    quadratic_found (ring_of m.ring) c.args.w c.args.a.now c.write_entries.new.res a0 c.index-a-1.result c.array_dot_product-norm.result c.in-Some.scalar
    (items_are c.args.a.now (a0 ∷ c.index-a-1.result ∷ []) c.requires.input (c.index-a-0.is, (c.index-a-1.is, tt)))
    (c.array_dot_product-norm.ensures ∙ (λ i. dot o (a0 ∷ neg i ∷ []) (a0 ∷ high i ∷ []))) c.in-Some.ensures
    (c.write_entries.ensures ∙ (λ i. c0 i ∷ c1 i ∷ []))

use Rattle.std.proofs.Common.{◌≡◌, ◌∙◌, [], ◌∷◌, length, ap, sym, rules}
use Rattle.p3_theory.specs.Rings.Ring.{subtract}
use Rattle.p3_theory.specs.Lists.ListItems.{items_are}
use Rattle.p3_theory.specs.Inverses.InversesByHalves.{less_shifted}
use Rattle.p3_extension_formulas.proofs.binomial_extension.sub_shifted.Goals as goal

pub returns : goal.returns
returns g c =
    let o = g.F.PrimeCharacteristicRing.ops in
    let m = g.met.F.PrimeCharacteristicRing in
    let a = c.four_from-a0 in
    let b = c.four_from-b0 in
    let left : length c.args.a ≡ 4 = search rules in
    let right : length c.args.b ≡ 4 = search rules in
    let items = items_are c.args.a (a.result.0 ∷ a.result.1 ∷ a.result.2 ∷ a.result.3 ∷ []) left (a.ensures.first, (a.ensures.second, (a.ensures.third, (a.ensures.fourth, tt)))) in
    let others = items_are c.args.b (b.result.0 ∷ b.result.1 ∷ b.result.2 ∷ b.result.3 ∷ []) right (b.ensures.first, (b.ensures.second, (b.ensures.third, (b.ensures.fourth, tt)))) in
    let c0 = m.subs.exact _ _ _ c.sub-c0.ensures ∙ ap (subtract o a.result.0) (m.muls.exact _ _ _ c.mul-w_b3.ensures) in
    let c1 = m.subs.exact _ _ _ c.sub-c1.ensures in
    let c2 = m.subs.exact _ _ _ c.sub-c2.ensures in
    let c3 = m.subs.exact _ _ _ c.sub-c3.ensures in
    (λ i. c0 i ∷ c1 i ∷ c2 i ∷ c3 i ∷ []) ∙ sym (λ i. less_shifted o c.args.w (items i) (others i))

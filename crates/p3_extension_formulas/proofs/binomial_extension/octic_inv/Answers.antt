use Rattle.std.proofs.Common.{◌≡◌, ◌∙◌, [], ◌∷◌, length, ap, rules}
use Rattle.p3_theory.specs.Rings.Ring.{ring_of}
use Rattle.p3_theory.specs.Polynomials.Polynomial.{quotient_neg}
use Rattle.p3_theory.specs.Inverses.EvenOdd.{interleave}
use Rattle.p3_theory.specs.Lists.ListItems.{items_are}
use Rattle.p3_theory.specs.Inverses.InversesByHalves.{octic_inverse, octic_absent}
use Rattle.p3_extension_formulas.proofs.binomial_extension.octic_inv.Goals as goal

pub returns-then-not-quartic_inv-clause-none : goal.returns-then-not-quartic_inv-clause-none
returns-then-not-quartic_inv-clause-none g c = λ _.
    let low = c.four_from-a0 in
    let high = c.four_from-a4 in
    let a0 = low.result.0 in
    let a1 = low.result.1 in
    let a2 = low.result.2 in
    let a3 = low.result.3 in
    let a4 = high.result.0 in
    let a5 = high.result.1 in
    let a6 = high.result.2 in
    let a7 = high.result.3 in
    let items = items_are c.args.a.now (a0 ∷ a1 ∷ a2 ∷ a3 ∷ a4 ∷ a5 ∷ a6 ∷ a7 ∷ []) c.requires.input
    (low.ensures.first, (low.ensures.second, (low.ensures.third, (low.ensures.fourth, (high.ensures.first, (high.ensures.second, (high.ensures.third, (high.ensures.fourth, tt)))))))) in
    let evens = c.square_at_four-evens_square in
    let odds = c.square_at_four-odds_square in
    let norm = c.sub_shifted-norm in
    octic_absent (ring_of g.met.F.PrimeCharacteristicRing.ring) c.args.w c.args.a.now norm.result a0 a1 a2 a3 a4 a5 a6 a7 items
    evens.result odds.result evens.ensures odds.ensures norm.ensures (c.quartic_inv.ensures.none c.if-not-quartic_inv.true)

pub returns-clause-inverse : goal.returns-clause-inverse
returns-clause-inverse g c = λ _.
    let low = c.four_from-a0 in
    let high = c.four_from-a4 in
    let a0 = low.result.0 in
    let a1 = low.result.1 in
    let a2 = low.result.2 in
    let a3 = low.result.3 in
    let a4 = high.result.0 in
    let a5 = high.result.1 in
    let a6 = high.result.2 in
    let a7 = high.result.3 in
    let items = items_are c.args.a.now (a0 ∷ a1 ∷ a2 ∷ a3 ∷ a4 ∷ a5 ∷ a6 ∷ a7 ∷ []) c.requires.input
    (low.ensures.first, (low.ensures.second, (low.ensures.third, (low.ensures.fourth, (high.ensures.first, (high.ensures.second, (high.ensures.third, (high.ensures.fourth, tt)))))))) in
    let evens = c.square_at_four-evens_square in
    let odds = c.square_at_four-odds_square in
    let norm = c.sub_shifted-norm in
    let even = c.product_at_four-even in
    let odd = c.product_at_four-odd in
    let half : length even.result ≡ 4 = search rules in
    octic_inverse (ring_of g.met.F.PrimeCharacteristicRing.ring) c.args.w c.args.a.now norm.result a0 a1 a2 a3 a4 a5 a6 a7 items
    evens.result odds.result evens.ensures odds.ensures norm.ensures
    c.quartic_inv.new.res even.result odd.result c.write_conjugate.new.res
    (search rules) (c.quartic_inv.ensures.inverse c.if-not-quartic_inv.false) even.ensures odd.ensures
    (c.write_conjugate.ensures ∙ ap (λ n. interleave even.result (quotient_neg g.F.PrimeCharacteristicRing.ops n odd.result)) half)

use Rattle.std.proofs.Common.{◌≡◌, ◌∙◌, [], ◌∷◌, length, ap, rules}
use Rattle.p3_theory.specs.Rings.Ring.{ring_of}
use Rattle.p3_theory.specs.Polynomials.Polynomial.{quotient_neg}
use Rattle.p3_theory.specs.Inverses.EvenOdd.{interleave}
use Rattle.p3_theory.specs.Lists.ListItems.{items_are}
use Rattle.p3_theory.specs.Inverses.InversesByHalves.{quartic_inverse, quartic_absent}
use Rattle.p3_extension_formulas.proofs.binomial_extension.quartic_inv.Goals as goal

pub returns-then-not-quadratic_inv-clause-none : goal.returns-then-not-quadratic_inv-clause-none
returns-then-not-quadratic_inv-clause-none g c = λ _.
    let read = c.four_from-a0 in
    let items = items_are c.args.a.now (read.result.0 ∷ read.result.1 ∷ read.result.2 ∷ read.result.3 ∷ []) c.requires.input
    (read.ensures.first, (read.ensures.second, (read.ensures.third, (read.ensures.fourth, tt)))) in
    quartic_absent (ring_of g.met.F.PrimeCharacteristicRing.ring) c.args.w c.args.a.now c.quartic_norm-norm.result read.result.0 read.result.1 read.result.2 read.result.3 items
    c.quartic_norm-norm.ensures (c.quadratic_inv.ensures.none c.if-not-quadratic_inv.true)

pub returns-clause-inverse : goal.returns-clause-inverse
returns-clause-inverse g c = λ _.
    let read = c.four_from-a0 in
    let items = items_are c.args.a.now (read.result.0 ∷ read.result.1 ∷ read.result.2 ∷ read.result.3 ∷ []) c.requires.input
    (read.ensures.first, (read.ensures.second, (read.ensures.third, (read.ensures.fourth, tt)))) in
    let even = c.product_at_two-even in
    let odd = c.product_at_two-odd in
    let half : length even.result ≡ 2 = search rules in
    quartic_inverse (ring_of g.met.F.PrimeCharacteristicRing.ring) c.args.w c.args.a.now c.quartic_norm-norm.result read.result.0 read.result.1 read.result.2 read.result.3 items
    c.quartic_norm-norm.ensures c.quadratic_inv.new.res even.result odd.result c.write_conjugate.new.res
    (search rules) (c.quadratic_inv.ensures.inverse c.if-not-quadratic_inv.false) even.ensures odd.ensures
    (c.write_conjugate.ensures ∙ ap (λ n. interleave even.result (quotient_neg g.F.PrimeCharacteristicRing.ops n odd.result)) half)

use Rattle.std.proofs.Common.{List, length, get_or, arith, sym, ap, ◌∙◌}
use Rattle.p3_theory.specs.Polynomials.Polynomial.{quotient_neg}
use Rattle.p3_theory.specs.Polynomials.Coefficients.{length-tabulate}
use Rattle.p3_theory.specs.Lists.ByIndex.{read_at, get-tabulate}
use Rattle.p3_theory.specs.Inverses.Interleaving.{in_turn-more, in_turn-all}
use Rattle.p3_extension_formulas.proofs.binomial_extension.write_conjugate.Goals as goal

pub loop-i-init : goal.loop-i-init
loop-i-init g c = λ k h. absurd (omega (arith, h))

pub loop-i-preserved : goal.loop-i-preserved
loop-i-preserved g c =
    let o = g.F.PrimeCharacteristicRing.ops in
    let i = c.loop-i.i in
    let even = c.args.even.now in
    let odd = c.args.odd.now in
    let negated : List g.row.F.Denot = quotient_neg o (length even) odd in
    in_turn-more even negated o.zero c.loop-i.res i c.index-even-i.result c.neg-negated.result (sym (length-tabulate (length even) (λ k. o.neg (get_or odd k o.zero))))
    c.loop-i-test.true (omega arith) c.loop-i.invariant (sym (read_at even i c.index-even-i.result o.zero (omega arith) c.index-even-i.is))
    (g.met.F.PrimeCharacteristicRing.negs.exact _ _ c.neg-negated.ensures
    ∙ ap o.neg (sym (read_at odd i c.index-odd-i.result o.zero (omega arith) c.index-odd-i.is))
    ∙ sym (get-tabulate (length even) (λ k. o.neg (get_or odd k o.zero)) i o.zero c.loop-i-test.true))

pub returns : goal.returns
returns g c =
    let o = g.F.PrimeCharacteristicRing.ops in
    let even = c.args.even.now in
    let odd = c.args.odd.now in
    in_turn-all even (quotient_neg o (length even) odd) o.zero c.loop-i.res c.loop-i.i (sym (length-tabulate (length even) (λ k. o.neg (get_or odd k o.zero))))
    c.loop-i-test.false (omega arith) c.loop-i.invariant

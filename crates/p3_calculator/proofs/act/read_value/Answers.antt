use Rattle.std.proofs.Common.{◌≡◌, ◌∙◌, ap, sym, arith, length, ◌∷◌}
use Rattle.p3_calculator_text.specs.Lines.{words}
use Rattle.p3_calculator.specs.Effects.{numbers_below}
use Rattle.p3_calculator.specs.Fields.{order}
use Rattle.p3_calculator.proofs.ValueLemmas.{value_more, prefixed-end}
use Rattle.p3_calculator.proofs.act.read_value.Goals as goal

pub overflow_sub-base_order : goal.overflow_sub-base_order
overflow_sub-base_order g c = omega (arith, c.base_order.ensures, g.met.F.CalculatorField.represents.above_one)

pub with_coefficient-x-requires-clause-below : goal.with_coefficient-x-requires-clause-below
with_coefficient-x-requires-clause-below g c = omega (arith, c.in-Some-parse_number.ensures.most, c.base_order.ensures, g.met.F.CalculatorField.represents.above_one)

pub loop-i-preserved : goal.loop-i-preserved
loop-i-preserved g c =
    let F = g.F.CalculatorField in
    let e = c.in-Some.ensures.some in
    let v = (g.met.F.CalculatorField.represents.valid c.loop-i.x).0 in
    let l : length (words c.loop-i.rest.now) ≡ length (c.in-Some.word.now ∷ words c.in-Some.more.now) = ap length e in (
      omega (arith, l, c.loop-i.invariant.0),
      value_more (order F.spec) c.base_order.result (F.coefficients c.loop-i.x) (F.coefficients c.with_coefficient-x.result) c.loop-i.i c.in-Some-parse_number.c c.in-Some.word.now (words c.loop-i.rest.now) (words c.in-Some.more.now)
          (numbers_below (order F.spec) (words c.args.line.now)) c.base_order.ensures e (omega (arith, l, v, c.loop-i.invariant.0)) c.in-Some-parse_number.ensures.value c.with_coefficient-x.ensures c.loop-i.invariant.1,
    )

pub returns-clause-some : goal.returns-clause-some
returns-clause-some g c =
    let F = g.F.CalculatorField in
    let v = (g.met.F.CalculatorField.represents.valid c.loop-i.x).0 in
    sym c.loop-i.invariant.1 ∙ prefixed-end (order F.spec) (F.coefficients c.loop-i.x) c.loop-i.i (words c.loop-i.rest.now)
    (omega (arith, c.loop-i.invariant.0, c.loop-i-test.false, c.loop-i.auto.i-end, c.coefficient_count-i-end.ensures)) (omega (arith, v, c.loop-i-test.false, c.coefficient_count-i-end.ensures))

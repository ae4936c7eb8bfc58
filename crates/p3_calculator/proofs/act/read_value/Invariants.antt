use Rattle.std.proofs.Common.{◌≡◌, ◌+◌, length, take}
use Rattle.p3_calculator_text.specs.Lines.{words}
use Rattle.p3_calculator.specs.Effects.{numbers_below}
use Rattle.p3_calculator.specs.Fields.{order, dimension}
use Rattle.p3_calculator.proofs.ValueLemmas.{prefixed}
use Rattle.p3_calculator.proofs.act.read_value.Given as goal

abbrev pub invariant-loop-i : goal.invariant-loop-i
invariant-loop-i g l =
    let F = g.F.CalculatorField in
    (length (words l.rest) + l.i ≡ dimension F.spec)
    × (prefixed (take l.i (F.coefficients l.x)) (numbers_below (order F.spec) (words l.rest)) ≡ numbers_below (order F.spec) (words l.line))

use Rattle.std.proofs.Common.{◌∙◌, ap}
use Rattle.p3_theory.specs.Rings.Homomorphism.{map-power}
use Rattle.p3_calculator.proofs.act.power.Goals as goal

pub returns : goal.returns
returns g c = ap g.F.CalculatorField.coefficients c.power.ensures ∙ map-power g.met.F.CalculatorField.represents.keeps c.args.x c.args.exponent

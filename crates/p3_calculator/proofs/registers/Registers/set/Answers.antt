use Rattle.std.proofs.lemmas.List.{map-set}
use Rattle.p3_calculator.proofs.registers.Registers.set.Goals as goal

pub returns : goal.returns
returns g c = map-set g.F.CalculatorField.coefficients c.args.self.now.values c.args.r c.args.x

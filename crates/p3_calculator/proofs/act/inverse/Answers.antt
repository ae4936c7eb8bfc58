use Rattle.p3_calculator.proofs.InverseLemmas.{inverse_some, inverse_none}
use Rattle.p3_calculator.proofs.act.inverse.Goals as goal

pub returns-clause-some : goal.returns-clause-some
returns-clause-some g c = inverse_some _ g.F.CalculatorField.ops _ g.met.F.CalculatorField.represents c.args.x _ c.inverse.ensures

pub returns-clause-none : goal.returns-clause-none
returns-clause-none g c = inverse_none _ g.F.CalculatorField.ops _ g.met.F.CalculatorField.represents c.args.x _ c.inverse.ensures

use Rattle.p3_calculator.proofs.SetCoefficients.{map-set_value}
use Rattle.p3_calculator.proofs.field.ExtFieldCalculatorField.with_coefficient.Goals as goal

pub returns : goal.returns
returns g c = map-set_value g.F.Base.canon c.args.self.value c.new.result.value c.args.i c.residue.result c.args.c c.new.ensures c.residue.ensures

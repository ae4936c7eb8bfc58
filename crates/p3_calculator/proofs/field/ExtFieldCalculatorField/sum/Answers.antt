use Rattle.p3_extension.specs.Values.{is_sum}
use Rattle.p3_calculator.proofs.field.ExtFieldCalculatorField.sum.Goals as goal

pub returns : goal.returns
returns g c = is_sum g.F.PrimeCharacteristicRing.ops g.F.ExtensionAlgebra.modulus _ g.met.F.PrimeCharacteristicRing.adds.exact c.args.self c.args.other c.add.result c.add.ensures

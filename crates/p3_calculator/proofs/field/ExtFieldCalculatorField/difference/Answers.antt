use Rattle.p3_extension.specs.Values.{is_difference}
use Rattle.p3_calculator.proofs.field.ExtFieldCalculatorField.difference.Goals as goal

pub returns : goal.returns
returns g c = is_difference g.F.PrimeCharacteristicRing.ops g.F.ExtensionAlgebra.modulus _ g.met.F.PrimeCharacteristicRing.subs.exact c.args.self c.args.other c.sub.result c.sub.ensures

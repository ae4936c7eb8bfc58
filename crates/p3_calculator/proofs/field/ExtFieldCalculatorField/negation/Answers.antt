use Rattle.p3_extension.specs.Values.{is_negation}
use Rattle.p3_calculator.proofs.field.ExtFieldCalculatorField.negation.Goals as goal

pub returns : goal.returns
returns g c = is_negation g.F.PrimeCharacteristicRing.ops g.F.ExtensionAlgebra.modulus _ g.met.F.PrimeCharacteristicRing.negs.exact c.args.self c.neg.result c.neg.ensures

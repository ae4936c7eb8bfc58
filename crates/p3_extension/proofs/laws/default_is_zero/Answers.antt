use Rattle.p3_extension.specs.ValueOrder.{zero_value}
use Rattle.p3_extension.proofs.laws.default_is_zero.Goals as goal

pub returns : goal.returns
returns g c = zero_value g.A.PrimeCharacteristicRing.ops g.A.ExtensionAlgebra.modulus c.args.x

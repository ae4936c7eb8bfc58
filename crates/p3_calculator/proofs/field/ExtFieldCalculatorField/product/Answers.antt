use Rattle.p3_extension.specs.Values.{ext_ops, same_value}
use Rattle.p3_calculator.proofs.field.ExtFieldCalculatorField.product.Goals as goal

pub returns : goal.returns
returns g c =
    let E = ext_ops g.F.PrimeCharacteristicRing.ops g.F.ExtensionAlgebra.modulus in
    same_value c.mul.result (E.mul c.args.self c.args.other) (g.met.F.ExtensionAlgebra.ext_products c.args.self.value c.args.other.value c.mul.result.value c.mul.ensures)

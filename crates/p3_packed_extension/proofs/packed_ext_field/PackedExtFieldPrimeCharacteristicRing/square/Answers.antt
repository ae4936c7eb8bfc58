use Rattle.std.proofs.Common.{◌∙◌, map}
use Rattle.p3_packed_extension.specs.PackedValues.{packed_product}
use Rattle.p3_packed_extension.proofs.packed_ext_field.PackedExtFieldPrimeCharacteristicRing.square.Goals as goal

pub returns : goal.returns
returns g c =
    let x = c.args.self.now in
    packed_product g.P.PrimeCharacteristicRing.ops (map g.P.Algebra.embed g.F.ExtensionAlgebra.modulus) x x c.new.result
    (c.new.ensures ∙ g.met.F.ExtensionOverAlgebra.packed_products _ _ _ c.packed_square.ensures)

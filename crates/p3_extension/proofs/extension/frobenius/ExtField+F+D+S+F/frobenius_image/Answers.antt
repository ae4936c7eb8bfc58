use Rattle.std.proofs.Common.{◌∙◌}
use Rattle.p3_extension.specs.Values.{same_value}
use Rattle.p3_extension.specs.Conjugates.{frobenius_map}
use Rattle.p3_extension.proofs.extension.frobenius.ExtField+F+D+S+F.frobenius_image.Goals as goal

pub returns : goal.returns
returns g c =
    same_value c.new.result (frobenius_map g.F.PrimeCharacteristicRing.ops g.F.ExtensionAlgebra.modulus g.F.FrobeniusExtendable.image c.args.self.now)
    (c.new.ensures ∙ c.apply_frobenius.ensures)

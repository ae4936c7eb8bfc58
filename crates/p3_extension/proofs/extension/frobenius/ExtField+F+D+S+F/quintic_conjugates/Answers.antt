use Rattle.std.proofs.Common.{◌∙◌}
use Rattle.p3_theory.specs.Rings.Ring.{ring_of}
use Rattle.p3_extension.specs.ConjugateChains.{chain_of_four}
use Rattle.p3_extension.proofs.extension.frobenius.ExtField+F+D+S+F.quintic_conjugates.Goals as goal

pub returns : goal.returns
returns g c =
    let m = g.met.F.ExtensionAlgebra in
    chain_of_four g.row.F.Denot g.row.S.Denot (ring_of g.met.F.PrimeCharacteristicRing.ring) g.row.D m.at_least_two g.F.ExtensionAlgebra.modulus m.monic g.F.FrobeniusExtendable.image
    g.met.F.FrobeniusExtendable.frobenius_laws c.args.self.now c.requires c.frobenius_image-image.result c.mul-pair.result c.frobenius_image-first.result c.new-second.result c.mul.result
    c.frobenius_image-image.ensures (m.ext_products _ _ _ c.mul-pair.ensures) c.frobenius_image-first.ensures (c.new-second.ensures ∙ c.apply_repeated_frobenius.ensures)
    (m.ext_products _ _ _ c.mul.ensures)

use Rattle.std.proofs.Common.{◌∙◌}
use Rattle.p3_theory.specs.Rings.Ring.{ring_of}
use Rattle.p3_extension.specs.Conjugates.{found_by, absent_by}
use Rattle.p3_extension.proofs.extension.frobenius.ExtField+F+D+S+F.inverse_from.Goals as goal

pub returns-in-Some : goal.returns-in-Some
returns-in-Some g c =
    let m = g.met.F.ExtensionAlgebra in
    found_by g.row.F.Denot g.row.S.Denot (ring_of g.met.F.PrimeCharacteristicRing.ring) g.F.ExtensionAlgebra.modulus g.F.FrobeniusExtendable.image g.row.D m.at_least_two m.monic
    g.met.F.FrobeniusExtendable.frobenius_laws c.args.self.now c.args.conjugates c.new-y.result c.constant_of_product-norm.result c.in-Some.i
    c.requires c.constant_of_product-norm.ensures c.in-Some.ensures (c.new-y.ensures ∙ c.ext_base_mul.ensures)

pub returns-in-None : goal.returns-in-None
returns-in-None g c =
    let m = g.met.F.ExtensionAlgebra in
    absent_by g.row.F.Denot g.row.S.Denot (ring_of g.met.F.PrimeCharacteristicRing.ring) g.F.ExtensionAlgebra.modulus g.F.FrobeniusExtendable.image g.row.D m.at_least_two m.monic
    g.met.F.FrobeniusExtendable.frobenius_laws c.args.self.now c.args.conjugates c.constant_of_product-norm.result
    c.requires c.constant_of_product-norm.ensures c.in-None.ensures

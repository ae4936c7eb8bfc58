use Rattle.p3_theory.specs.Rings.Ring.{ring_of}
use Rattle.p3_extension.specs.Conjugates.{orbit_is_norm, norm_exact}
use Rattle.p3_extension.proofs.laws.orbit_product_is_norm.Goals as goal

pub returns-clause-embedded : goal.returns-clause-embedded
returns-clause-embedded g c =
    let m = g.met.F.ExtensionAlgebra in
    orbit_is_norm g.row.F.Denot g.row.S.Denot (ring_of g.met.F.PrimeCharacteristicRing.ring) g.F.ExtensionAlgebra.modulus g.F.FrobeniusExtendable.image g.row.D m.at_least_two m.monic
    g.met.F.FrobeniusExtendable.frobenius_laws c.args.a

pub returns-clause-exact : goal.returns-clause-exact
returns-clause-exact g c =
    let m = g.met.F.ExtensionAlgebra in
    norm_exact g.row.F.Denot g.row.S.Denot (ring_of g.met.F.PrimeCharacteristicRing.ring) g.F.ExtensionAlgebra.modulus g.F.FrobeniusExtendable.image g.row.D m.at_least_two m.monic
    g.met.F.FrobeniusExtendable.frobenius_laws c.args.a

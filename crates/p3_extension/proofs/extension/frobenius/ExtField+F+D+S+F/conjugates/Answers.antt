use Rattle.std.proofs.Common.{◌≡◌, arith}
use Rattle.p3_theory.specs.Rings.Ring.{ring_of}
use Rattle.p3_extension.specs.ConjugateChains.{chain_first, chain_step, chain_last}
use Rattle.p3_extension.proofs.extension.frobenius.ExtField+F+D+S+F.conjugates.Goals as goal

pub loop-init : goal.loop-init
loop-init g c =
    let m = g.met.F.ExtensionAlgebra in
    chain_first g.row.F.Denot g.row.S.Denot (ring_of g.met.F.PrimeCharacteristicRing.ring) g.row.D m.at_least_two g.F.ExtensionAlgebra.modulus m.monic g.F.FrobeniusExtendable.image
    g.met.F.FrobeniusExtendable.frobenius_laws c.args.self.now c.frobenius_image-product.result c.frobenius_image-product.ensures

pub loop-preserved : goal.loop-preserved
loop-preserved g c =
    let m = g.met.F.ExtensionAlgebra in
    chain_step g.row.F.Denot g.row.S.Denot (ring_of g.met.F.PrimeCharacteristicRing.ring) g.row.D m.at_least_two g.F.ExtensionAlgebra.modulus m.monic g.F.FrobeniusExtendable.image
    g.met.F.FrobeniusExtendable.frobenius_laws c.args.self.now c.loop.counter c.loop.auto.counter c.loop.product c.mul-next.result c.frobenius_image-product-in-loop.result
    c.loop.invariant (m.ext_products _ _ _ c.mul-next.ensures) c.frobenius_image-product-in-loop.ensures

pub returns : goal.returns
returns g c =
    let m = g.met.F.ExtensionAlgebra in
    let all : c.loop.counter ≡ g.row.D = omega (arith, m.at_least_two) in
    chain_last g.row.F.Denot g.row.S.Denot (ring_of g.met.F.PrimeCharacteristicRing.ring) g.row.D m.at_least_two g.F.ExtensionAlgebra.modulus m.monic g.F.FrobeniusExtendable.image
    g.met.F.FrobeniusExtendable.frobenius_laws c.args.self.now c.loop.counter all c.loop.product c.loop.invariant

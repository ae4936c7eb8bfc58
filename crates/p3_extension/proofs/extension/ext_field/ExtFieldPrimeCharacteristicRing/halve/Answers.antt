use Rattle.std.proofs.Common.{◌≡◌}
use Rattle.p3_theory.specs.Rings.Ring.{ring_of}
use Rattle.p3_extension.specs.Doublings.{half_of_base, of_written, half_by_coefficients}
use Rattle.p3_extension.specs.WrittenEntries.{written-from_one}
use Rattle.p3_extension.proofs.extension.ext_field.ExtFieldPrimeCharacteristicRing.halve.Goals as goal

pub halve-requires : goal.halve-requires
halve-requires g c =
    let m = g.met.A.ExtensionAlgebra in
    half_of_base g.row.F.Denot g.row.S.Denot (ring_of g.met.A.PrimeCharacteristicRing.ring) g.row.D m.at_least_two g.A.ExtensionAlgebra.modulus m.monic c.requires

pub returns : goal.returns
returns g c =
    let o = g.A.PrimeCharacteristicRing.ops in
    let m = g.met.A.ExtensionAlgebra in
    let base = ring_of g.met.A.PrimeCharacteristicRing.ring in
    let f = g.A.ExtensionAlgebra.modulus in
    let x = c.args.self.now in
    let r = c.new.result in
    half_by_coefficients g.row.F.Denot g.row.S.Denot base g.row.D m.at_least_two f m.monic x r
    (of_written g.row.F.Denot g.row.S.Denot base g.row.D m.at_least_two f m.monic (λ u v. o.add u u ≡ v)
    x r c.loop-i.value c.loop-i.i c.loop-i-test.false c.new.ensures c.loop-i.invariant.1)

pub loop-i-preserved : goal.loop-i-preserved
loop-i-preserved g c =
    let o = g.A.PrimeCharacteristicRing.ops in
    let x = c.args.self.now in
    written-from_one (λ u v. o.add v v ≡ u) g.row.D x.value c.loop-i.value c.loop-i.i c.index-self-i.result c.halve.result
    c.loop-i-test.true x.sized c.halve.ensures c.loop-i.invariant

use Rattle.std.proofs.Common.{◌≡◌}
use Rattle.p3_theory.specs.Rings.Ring.{ring_of}
use Rattle.p3_theory.specs.Rings.Powers.{power}
use Rattle.p3_theory.specs.Rings.Multiples.{two}
use Rattle.p3_extension.specs.Doublings.{half_of_base, of_written, quotient_by_coefficients}
use Rattle.p3_extension.specs.WrittenEntries.{written-from_one}
use Rattle.p3_extension.proofs.extension.ext_field.ExtFieldPrimeCharacteristicRing.div_2exp_u64.Goals as goal

pub div_2exp_u64-requires : goal.div_2exp_u64-requires
div_2exp_u64-requires g c =
    let m = g.met.A.ExtensionAlgebra in
    half_of_base g.row.F.Denot g.row.S.Denot (ring_of g.met.A.PrimeCharacteristicRing.ring) g.row.D m.at_least_two g.A.ExtensionAlgebra.modulus m.monic c.requires

pub returns : goal.returns
returns g c =
    let o = g.A.PrimeCharacteristicRing.ops in
    let m = g.met.A.ExtensionAlgebra in
    let base = ring_of g.met.A.PrimeCharacteristicRing.ring in
    let f = g.A.ExtensionAlgebra.modulus in
    let x = c.args.self.now in
    let r = c.new.result in
    quotient_by_coefficients g.row.F.Denot g.row.S.Denot base g.row.D m.at_least_two f m.monic x r c.args.exponent
    (of_written g.row.F.Denot g.row.S.Denot base g.row.D m.at_least_two f m.monic (λ u v. o.mul u (power o (two o) c.args.exponent) ≡ v)
    x r c.loop-i.value c.loop-i.i c.loop-i-test.false c.new.ensures c.loop-i.invariant.1)

pub loop-i-preserved : goal.loop-i-preserved
loop-i-preserved g c =
    let o = g.A.PrimeCharacteristicRing.ops in
    let x = c.args.self.now in
    written-from_one (λ u v. o.mul v (power o (two o) c.args.exponent) ≡ u) g.row.D x.value c.loop-i.value c.loop-i.i c.index-self-i.result c.div_2exp_u64.result
    c.loop-i-test.true x.sized c.div_2exp_u64.ensures c.loop-i.invariant

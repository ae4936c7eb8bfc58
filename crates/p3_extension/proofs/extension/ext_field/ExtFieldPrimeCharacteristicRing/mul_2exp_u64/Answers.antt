use Rattle.std.proofs.Common.{◌≡◌}
use Rattle.p3_theory.specs.Rings.Ring.{ring_of}
use Rattle.p3_theory.specs.Rings.Powers.{power}
use Rattle.p3_theory.specs.Rings.Multiples.{two}
use Rattle.p3_extension.specs.Doublings.{of_written, product_by_coefficients}
use Rattle.p3_extension.specs.WrittenEntries.{written-from_one}
use Rattle.p3_extension.proofs.extension.ext_field.ExtFieldPrimeCharacteristicRing.mul_2exp_u64.Goals as goal

pub returns : goal.returns
returns g c =
    let o = g.A.PrimeCharacteristicRing.ops in
    let m = g.met.A.ExtensionAlgebra in
    let base = ring_of g.met.A.PrimeCharacteristicRing.ring in
    let f = g.A.ExtensionAlgebra.modulus in
    let x = c.args.self.now in
    let r = c.new.result in
    product_by_coefficients g.row.F.Denot g.row.S.Denot base g.row.D m.at_least_two f m.monic x r c.args.exponent
    (of_written g.row.F.Denot g.row.S.Denot base g.row.D m.at_least_two f m.monic (λ u v. u ≡ o.mul v (power o (two o) c.args.exponent))
    x r c.loop-i.value c.loop-i.i c.loop-i-test.false c.new.ensures c.loop-i.invariant.1)

pub loop-i-preserved : goal.loop-i-preserved
loop-i-preserved g c =
    let o = g.A.PrimeCharacteristicRing.ops in
    let x = c.args.self.now in
    written-from_one (λ u v. v ≡ o.mul u (power o (two o) c.args.exponent)) g.row.D x.value c.loop-i.value c.loop-i.i c.index-self-i.result c.mul_2exp_u64.result
    c.loop-i-test.true x.sized c.mul_2exp_u64.ensures c.loop-i.invariant

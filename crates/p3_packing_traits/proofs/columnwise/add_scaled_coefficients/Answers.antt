use Rattle.std.proofs.Common.{◌<◌, ◌≤◌, min, length, rules, ap, sym, ◌∙◌, arith}
use Rattle.std.proofs.lemmas.List.{length-set}
use Rattle.p3_theory.specs.Lists.TabulatedEntries.{updated-none}
use Rattle.p3_packing_traits.specs.CoefficientSums.{entry_after, product-added, products-added}
use Rattle.p3_packing_traits.proofs.columnwise.add_scaled_coefficients.Goals as goal

pub loop-i-init : goal.loop-i-init
loop-i-init g c =
    let o = g.P.PrimeCharacteristicRing.ops in
    record { whole = search rules; updated = updated-none (entry_after o c.args.d c.args.acc c.args.coeffs.now c.args.scale) o.zero c.args.acc }

pub loop-i-preserved : goal.loop-i-preserved
loop-i-preserved g c =
    let m = g.met.P.PrimeCharacteristicRing in
    let kept = c.loop-i.invariant in
    let in_list : c.loop-i.i < min c.args.d (length c.args.coeffs.now) = omega (arith, c.loop-i-test.true, c.min-i-end.ensures) in
    let inside : c.loop-i.i < length c.loop-i.sums = omega (arith, in_list, c.requires, kept.whole) in
    record {
      whole = length-set c.loop-i.sums c.loop-i.i c.add-sum.result ∙ kept.whole;
      updated = product-added m.ring c.args.d c.args.acc c.loop-i.sums c.args.coeffs.now c.args.scale c.loop-i.i c.index-coeffs-i.result c.index-sums-i.result
          c.mul-product.result c.add-sum.result in_list inside kept.updated c.index-coeffs-i.is c.index-sums-i.is
          (m.muls.exact _ _ _ c.mul-product.ensures) (m.adds.exact _ _ _ c.add-sum.ensures ∙ ap (λ z. g.P.PrimeCharacteristicRing.ops.add z c.mul-product.result) (sym c.index-sums-i.is));
    }

pub returns : goal.returns
returns g c =
    let over : min c.args.d (length c.args.coeffs.now) ≤ c.loop-i.i = omega (arith, c.loop-i-test.false, c.min-i-end.ensures) in
    products-added g.met.P.PrimeCharacteristicRing.ring c.args.d c.args.acc c.loop-i.sums c.args.coeffs.now c.args.scale c.loop-i.i over
    c.loop-i.invariant.whole c.loop-i.invariant.updated

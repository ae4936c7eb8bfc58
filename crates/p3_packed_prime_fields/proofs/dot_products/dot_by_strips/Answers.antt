use Rattle.std.proofs.Common.{arith, ap, ap₂, ◌∙◌}
use Rattle.std.proofs.lemmas.List.{take_rest}
use Rattle.p3_theory.specs.Rings.DotProduct.{dot}
use Rattle.p3_theory.specs.Rings.Ring.{ring_of}
use Rattle.p3_theory.specs.Rings.Basics.{add_from_zero}
use Rattle.p3_theory.specs.Lanes.RowRing.{row_ops, row_laws, written_sum, filled}
use Rattle.p3_packed_prime_fields.specs.Values.{packed_rows}
use Rattle.p3_packed_prime_fields.proofs.LaneDotProducts.{dot-block}
use Rattle.p3_packed_prime_fields.proofs.dot_products.dot_by_strips.Goals as goal

pub loop-start-init : goal.loop-start-init
loop-start-init g c =
    let o = g.F.PrimeCharacteristicRing.ops in
    let m = g.met.F.PrimeCharacteristicRing in (
      omega arith,
      add_from_zero (ring_of (row_laws packed_rows o m.ring)) _ _ (filled packed_rows o c.new-sum.result _ _ c.new-sum.ensures c.zero.ensures),
    )

pub loop-start-preserved : goal.loop-start-preserved
loop-start-preserved g c =
    let o = g.F.PrimeCharacteristicRing.ops in
    let m = g.met.F.PrimeCharacteristicRing in
    let s = c.loop-start.sum in
    let strip = c.dot_of_strip-strip.result in (
      omega arith,
      dot-block (row_laws packed_rows o m.ring) c.args.u.now c.args.v.now c.requires c.loop-start.start 65536 s strip c.add_lanes-sum.result _ c.dot_of_strip-strip.ensures
          (written_sum packed_rows o s strip c.add_lanes-sum.result (λ d k w. m.adds.exact _ _ _ (c.add_lanes-sum.ensures d k w))) c.loop-start.invariant.1,
    )

pub returns : goal.returns
returns g c =
    let o = g.F.PrimeCharacteristicRing.ops in
    let m = g.met.F.PrimeCharacteristicRing in
    let rows = row_ops packed_rows o in
    let s = c.loop-start.sum in
    let last = c.dot_of_strip-last.result in
    let rest = c.dot_of_strip-last.ensures ∙ ap₂ (dot rows) (take_rest c.args.u.now c.loop-start.start) (take_rest c.args.v.now c.loop-start.start) in
    written_sum packed_rows o s last c.add_lanes.result (λ d k w. m.adds.exact _ _ _ (c.add_lanes.ensures d k w)) ∙ ap (rows.add s) rest ∙ c.loop-start.invariant.1

use Rattle.std.proofs.Common.{arith, ◌∙◌}
use Rattle.p3_theory.specs.Rings.Ring.{ring_of}
use Rattle.p3_theory.specs.Rings.Basics.{add_from_zero}
use Rattle.p3_theory.specs.Lanes.RowRing.{row_laws, written_sum, filled}
use Rattle.p3_packed_prime_fields.specs.Values.{packed_rows}
use Rattle.p3_packed_prime_fields.proofs.LaneDotProducts.{dot-block}
use Rattle.p3_packed_prime_fields.proofs.dot_products.dot_by_blocks.Goals as goal

pub loop-start-init : goal.loop-start-init
loop-start-init g c =
    let o = g.F.PrimeCharacteristicRing.ops in
    let m = g.met.F.PrimeCharacteristicRing in (
      omega arith,
      add_from_zero (ring_of (row_laws packed_rows o m.ring)) _ _ (filled packed_rows o c.new-sum.result _ _ c.new-sum.ensures c.zero.ensures),
    )

pub loop-start-preserved : goal.loop-start-preserved
loop-start-preserved g c =
    let o = g.F.PrimeCharacteristicRing.ops in
    let m = g.met.F.PrimeCharacteristicRing in
    let s = c.loop-start.sum in
    let block = c.dot_of_few-block.result in (
      omega arith,
      dot-block (row_laws packed_rows o m.ring) c.args.u.now c.args.v.now c.requires c.loop-start.start 4 s block c.add_lanes-sum.result _ c.dot_of_few-block.ensures
          (written_sum packed_rows o s block c.add_lanes-sum.result (λ d k w. m.adds.exact _ _ _ (c.add_lanes-sum.ensures d k w))) c.loop-start.invariant.1,
    )

pub returns : goal.returns
returns g c = c.add_products.ensures ∙ c.loop-start.invariant.1

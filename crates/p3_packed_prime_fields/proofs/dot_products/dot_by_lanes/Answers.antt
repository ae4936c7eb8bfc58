use Rattle.std.proofs.Common.{arith}
use Rattle.p3_packed_prime_fields.specs.Values.{packed_rows}
use Rattle.p3_packed_prime_fields.proofs.LaneDotProducts.{dot_by_items}
use Rattle.p3_packed_prime_fields.proofs.dot_products.dot_by_lanes.Goals as goal

pub returns : goal.returns
returns g c =
    dot_by_items packed_rows g.F.PrimeCharacteristicRing.ops c.args.u.now c.args.v.now c.new.result c.loop-lane.value c.new.ensures
    (λ k w. c.loop-lane.invariant.1 _ k (omega (arith, w, c.loop-lane-test.false)))

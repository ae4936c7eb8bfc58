use Rattle.std.proofs.Common.{arith, map}
use Rattle.std.proofs.lemmas.List.{same_lists, length-map}
use Rattle.p3_theory.specs.Lanes.RowRing.{item}
use Rattle.p3_packed_prime_fields.specs.Values.{packed_rows}
use Rattle.p3_packed_prime_fields.proofs.dot_products.lane_values.Goals as goal

pub returns : goal.returns
returns g c =
    let at = item packed_rows g.F.PrimeCharacteristicRing.ops c.args.lane in
    let i = c.loop-i.invariant in
    same_lists c.loop-i.values (map at c.args.packings.now) (omega (arith, i.0, c.requires.count, length-map c.args.packings.now at))
    (λ k d w. i.1 d k (omega (arith, w, i.0, c.loop-i-test.false)))

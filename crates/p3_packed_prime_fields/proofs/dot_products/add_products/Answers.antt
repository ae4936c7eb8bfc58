use Rattle.std.proofs.Common.{arith, ap, ◌∙◌, drop}
use Rattle.p3_theory.specs.Rings.DotProduct.{dot, dot-step, dot-end}
use Rattle.p3_theory.specs.Lanes.RowRing.{row_ops, row_laws, written_sum, written_product}
use Rattle.p3_packed_prime_fields.specs.Values.{packed_rows}
use Rattle.p3_packed_prime_fields.proofs.dot_products.add_products.Goals as goal

pub loop-i-preserved : goal.loop-i-preserved
loop-i-preserved g c =
    let o = g.F.PrimeCharacteristicRing.ops in
    let m = g.met.F.PrimeCharacteristicRing in
    let rows = row_ops packed_rows o in
    let x = c.index-u-i.result in
    let y = c.index-v-i.result in
    let s = c.loop-i.sum in
    let p = c.mul_lanes-product.result in
    let whole = rows.add c.args.sum (dot rows (drop c.args.start c.args.u.now) (drop c.args.start c.args.v.now)) in
    dot-step (row_laws packed_rows o m.ring) c.args.u.now c.args.v.now c.loop-i.i x y s c.add_lanes-sum.result whole c.loop-i-test.true (omega arith) c.index-u-i.is c.index-v-i.is
    (written_sum packed_rows o s p c.add_lanes-sum.result (λ d k w. m.adds.exact _ _ _ (c.add_lanes-sum.ensures d k w))
    ∙ ap (rows.add s) (written_product packed_rows o x y p (λ d k w. m.muls.exact _ _ _ (c.mul_lanes-product.ensures d k w)))) c.loop-i.invariant

pub returns : goal.returns
returns g c =
    let o = g.F.PrimeCharacteristicRing.ops in
    let rows = row_ops packed_rows o in
    let whole = rows.add c.args.sum (dot rows (drop c.args.start c.args.u.now) (drop c.args.start c.args.v.now)) in
    dot-end (row_laws packed_rows o g.met.F.PrimeCharacteristicRing.ring) c.args.u.now c.args.v.now c.loop-i.i c.loop-i.sum whole c.loop-i-test.false c.loop-i.invariant

use Rattle.std.proofs.Common.{◌<◌, length, rules, arith, ap, ◌∙◌}
use Rattle.p3_theory.specs.Rings.DotProduct.{dot-begin, dot-step, dot-end}
use Rattle.p3_ring.proofs.ring.PrimeCharacteristicRing.dot_product.Goals as goal

pub loop-i-init : goal.loop-i-init
loop-i-init g c =
    let m = g.met.Self.PrimeCharacteristicRing in
    let some : 0 < length c.args.u.now = search rules in
    dot-begin m.ring c.args.u.now c.args.v.now c.index-u-0.result c.index-v-0.result c.mul-sum.result some c.requires c.index-u-0.is c.index-v-0.is
    (m.muls.exact _ _ _ c.mul-sum.ensures)

pub loop-i-preserved : goal.loop-i-preserved
loop-i-preserved g c =
    let o = g.Self.PrimeCharacteristicRing.ops in
    let m = g.met.Self.PrimeCharacteristicRing in
    dot-step m.ring c.args.u.now c.args.v.now c.loop-i.i c.index-u-i.result c.index-v-i.result c.loop-i.sum c.add_assign.new.self _ c.loop-i-test.true (omega arith)
    c.index-u-i.is c.index-v-i.is (m.add_assigns.exact _ _ _ c.add_assign.ensures.after ∙ ap (o.add c.loop-i.sum) (m.muls.exact _ _ _ c.mul-product.ensures)) c.loop-i.invariant

pub returns : goal.returns
returns g c =
    dot-end g.met.Self.PrimeCharacteristicRing.ring c.args.u.now c.args.v.now c.loop-i.i c.loop-i.sum _ c.loop-i-test.false c.loop-i.invariant

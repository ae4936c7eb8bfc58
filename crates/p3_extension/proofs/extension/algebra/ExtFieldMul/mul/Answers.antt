use Rattle.p3_extension.specs.WrittenEntries.{written-from_one}
use Rattle.p3_extension.proofs.extension.algebra.ExtFieldMul.mul.Goals as goal

pub loop-i-preserved : goal.loop-i-preserved
loop-i-preserved g c =
    let x = c.args.self in
    written-from_one (λ u v. g.A.Mul.mul_gives u c.args.rhs v) g.row.D x.value c.loop-i.value c.loop-i.i c.index-self-i.result c.mul.result
    c.loop-i-test.true x.sized c.mul.ensures c.loop-i.invariant

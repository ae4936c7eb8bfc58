use Rattle.p3_extension.specs.WrittenEntries.{written-from_one}
use Rattle.p3_extension.proofs.extension.ext_field.ExtFieldNeg.neg.Goals as goal

pub loop-i-preserved : goal.loop-i-preserved
loop-i-preserved g c =
    let x = c.args.self in
    written-from_one g.A.Neg.neg_gives g.row.D x.value c.loop-i.value c.loop-i.i c.index-self-i.result c.neg.result
    c.loop-i-test.true x.sized c.neg.ensures c.loop-i.invariant

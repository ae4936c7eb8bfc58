use Rattle.p3_extension.specs.WrittenEntries.{written-from_two}
use Rattle.p3_extension.proofs.extension.ext_field.ExtFieldAdd.add.Goals as goal

pub loop-i-preserved : goal.loop-i-preserved
loop-i-preserved g c =
    let x = c.args.self in
    let y = c.args.other in
    written-from_two g.A.Add.add_gives g.row.D x.value y.value c.loop-i.value c.loop-i.i c.index-self-i.result c.index-other-i.result c.add.result
    c.loop-i-test.true x.sized y.sized c.add.ensures c.loop-i.invariant

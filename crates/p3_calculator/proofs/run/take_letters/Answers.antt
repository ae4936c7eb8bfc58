use Rattle.std.proofs.Common.{◌+◌, ◌<◌, arith, length}
use Rattle.p3_calculator.proofs.Letters.{one_more, no_end}
use Rattle.p3_calculator.proofs.run.take_letters.Goals as goal

pub loop-count-preserved : goal.loop-count-preserved
loop-count-preserved c =
    let old = c.args.line.now in
    let bytes = c.args.bytes.now in
    let l = c.loop-count in
    let some : l.count < length bytes = omega (arith, c.loop-count-test.true, c.min-most.ensures) in
    let within : old.used + l.count < length l.line.bytes = omega (arith, c.loop-count-test.true, c.min-most.ensures, old.within, l.line.full) in
    (omega (arith, c.loop-count-test.true), one_more old.bytes l.line.bytes bytes old.used l.count within some l.invariant.1, no_end bytes l.count some c.if-bytes-count-ne10.true l.invariant.2)

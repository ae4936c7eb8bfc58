use Rattle.std.proofs.Common.{◌∙◌, ◌+◌, refl, arith}
use Rattle.p3_calculator.proofs.TakenBytes.{turn, stop, done, carries_none, over_letters}
use Rattle.p3_calculator.proofs.Letters.{still_within}
use Rattle.p3_calculator.proofs.run.take_all.Goals as goal

pub returns-in-Err-clause-takes : goal.returns-in-Err-clause-takes
returns-in-Err-clause-takes g c =
    let contents = g.W.Sink.contents in
    let l = c.loop-at in
    let t = c.take_letters-at in
    let letters = over_letters c.args.machine.now l.machine _ (contents c.args.writer.now) (contents l.writer) c.args.bytes.now l.at t.result l.invariant.3 t.ensures.letters refl refl t.ensures.bytes in
    stop c.args.machine.now _ c.take_byte.new.machine (contents c.args.writer.now) (contents l.writer) (contents c.take_byte.new.writer) c.in-Err.stop c.args.bytes.now (l.at + t.result) c.if-at-bytes.true letters c.in-Err.ensures.takes

pub loop-at-preserved-in-Ok : goal.loop-at-preserved-in-Ok
loop-at-preserved-in-Ok g c =
    let contents = g.W.Sink.contents in
    let l = c.loop-at in
    let t = c.take_letters-at in
    let letters = over_letters c.args.machine.now l.machine _ (contents c.args.writer.now) (contents l.writer) c.args.bytes.now l.at t.result l.invariant.3 t.ensures.letters refl refl t.ensures.bytes in (
      omega (arith, c.if-at-bytes.true),
      omega (arith, l.invariant.1, c.take_byte.ensures.number),
      c.in-Ok.ensures.failure ∙ l.invariant.2,
      turn c.args.machine.now _ c.take_byte.new.machine (contents c.args.writer.now) (contents l.writer) (contents c.take_byte.new.writer) c.args.bytes.now (l.at + t.result) c.if-at-bytes.true letters c.in-Ok.ensures.takes,
    )

pub loop-at-preserved : goal.loop-at-preserved
loop-at-preserved g c =
    let contents = g.W.Sink.contents in
    let l = c.loop-at in
    let t = c.take_letters-at in (
      still_within c.args.bytes.now l.at t.result l.invariant.0 t.ensures.count,
      omega (arith, l.invariant.1),
      l.invariant.2,
      over_letters c.args.machine.now l.machine _ (contents c.args.writer.now) (contents l.writer) c.args.bytes.now l.at t.result l.invariant.3 t.ensures.letters refl refl t.ensures.bytes,
    )

pub loop-at-init : goal.loop-at-init
loop-at-init g c = (omega arith, omega arith, refl, carries_none c.args.machine.now (g.W.Sink.contents c.args.writer.now))

pub returns-clause-takes : goal.returns-clause-takes
returns-clause-takes g c =
    let contents = g.W.Sink.contents in
    let l = c.loop-at in
    done c.args.machine.now l.machine (contents c.args.writer.now) (contents l.writer) c.args.bytes.now l.at c.loop-at-test.false l.invariant.3

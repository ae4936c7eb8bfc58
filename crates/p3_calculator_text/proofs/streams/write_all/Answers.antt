use Rattle.p3_calculator_text.proofs.Pieces.{more_written, not_stopped}
use Rattle.p3_calculator_text.proofs.streams.write_all.Goals as goal

pub loop-at-preserved : goal.loop-at-preserved
loop-at-preserved g c =
    let contents = g.W.Sink.contents in
    let e = c.in_ok-taken.ensures in
    let inv = c.loop-at.invariant in
    let more = more_written (contents c.args.writer.now) (contents c.loop-at.writer) (contents c.write.new.self) c.args.bytes.now c.loop-at.at c.in_ok-taken.taken inv.1 inv.0 e.count e.bytes in
    (more.0, more.1, not_stopped _ _ _ _ _ c.if-taken-eq0.false e.failure inv.2)

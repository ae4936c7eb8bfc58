use Rattle.std.proofs.Common.{◌∙◌, ◌++◌, [], ℕ, List, take, ap, subst, arith, append-nil}
use Rattle.std.specs.Io.KnownBytes.{Consumes, IsAtEnd}
use Rattle.std.proofs.KnownBytes.{Appends-trans, Appends-nil, Consumes-trans, Consumes-nil, Consumes-kept}
use Rattle.std.proofs.lemmas.List.{length-take-le}
use Rattle.p3_calculator.proofs.Endings.{begin, after_cut, after_finish, after_err}
use Rattle.p3_calculator.proofs.run.engine_in.Goals as goal

pub reads-init : goal.reads-init
reads-init g c = (
  omega (arith, c.new-machine.ensures.number),
  c.requires.reader,
  c.requires.writer,
  ([], [], begin c.new-machine.result c.new-machine.ensures.number c.new-machine.ensures.used c.new-machine.ensures.state, Consumes-nil _, Appends-nil _),
)

pub returns-in-Err : goal.returns-in-Err
returns-in-Err g c =
    let has = g.R.Source.remaining in
    let contents = g.W.Sink.contents in
    let l = c.reads in
    let i = l.invariant.3 in
    let end = IsAtEnd (has c.read.new.self) in
    let out = after_cut l.machine (g.R.Source.failed c.read.new.self) (g.W.Sink.failed l.writer) (g.W.Sink.failed c.end_with.new.writer) end (contents c.args.writer.now) (contents l.writer) (contents c.end_with.new.writer) i.0 i.1 c.end_with.result
    c.in-Err.ensures.failure l.invariant.2 i.2 i.4 c.end_with.ensures in
    (i.0, out.0, Consumes-kept (has c.args.reader.now) (has l.reader) (has c.read.new.self) i.0 i.3 c.in-Err.ensures.bytes, out.1, out.2)

pub returns-then-count-eq0 : goal.returns-then-count-eq0
returns-then-count-eq0 g c =
    let has = g.R.Source.remaining in
    let contents = g.W.Sink.contents in
    let l = c.reads in
    let i = l.invariant.3 in
    let end = IsAtEnd (has c.read.new.self) in
    let e = c.in-Ok.ensures in
    let at : end = e.bytes.1 c.if-count-eq0.true (omega arith) in
    let out = after_finish l.machine (g.R.Source.failed c.read.new.self) (g.W.Sink.failed l.writer) (g.W.Sink.failed c.finish.new.writer) end (contents c.args.writer.now) (contents l.writer) (contents c.finish.new.writer) i.0 i.1 c.finish.result
    (e.failure ∙ l.invariant.1) l.invariant.2 at i.2 i.4 c.finish.ensures in
    let none = ap (λ (n : ℕ). take n c.read.new.buf) c.if-count-eq0.true in
    let read = Consumes-trans (has c.args.reader.now) (has l.reader) (has c.read.new.self) i.0 _ i.3 e.bytes.0 in
    (i.0, out.0, subst (λ (l : List ℕ). Consumes (has c.args.reader.now) (has c.read.new.self) l) (ap (λ (l : List ℕ). i.0 ++ l) none ∙ append-nil i.0) read, out.1, out.2)

pub reads-preserved : goal.reads-preserved
reads-preserved g c =
    let has = g.R.Source.remaining in
    let contents = g.W.Sink.contents in
    let l = c.reads in
    let i = l.invariant.3 in
    let e = c.in-Ok.ensures in
    let x = c.in-Ok-take_all.ensures.takes i.0 i.1 i.2 in
    let len = length-take-le c.in-Ok.count c.read.new.buf e.count in (
      omega (arith, l.invariant.0, c.in-Ok-take_all.ensures.number, e.bound, len),
      e.failure ∙ l.invariant.1,
      c.in-Ok-take_all.ensures.failure ∙ l.invariant.2,
      (
        _,
        i.1 ++ x.0,
        x.2,
        Consumes-trans (has c.args.reader.now) (has l.reader) (has c.read.new.self) i.0 _ i.3 e.bytes.0,
        Appends-trans (contents c.args.writer.now) (contents l.writer) (contents c.take_all.new.writer) i.1 x.0 i.4 x.1,
      ),
    )

pub returns-in-Err-take_all : goal.returns-in-Err-take_all
returns-in-Err-take_all g c =
    let has = g.R.Source.remaining in
    let contents = g.W.Sink.contents in
    let failed = g.W.Sink.failed in
    let l = c.reads in
    let i = l.invariant.3 in
    let e = c.in-Ok.ensures in
    let end = IsAtEnd (has c.read.new.self) in
    let x = c.in-Err-take_all.ensures in
    let out = after_err l.machine c.take_all.new.machine c.in-Err-take_all.stop (g.R.Source.failed c.read.new.self) (failed l.writer) (failed c.take_all.new.writer) (failed c.end_at.new.writer) end
    (contents c.args.writer.now) (contents l.writer) (contents c.take_all.new.writer) (contents c.end_at.new.writer) i.0 (take c.in-Ok.count c.read.new.buf) i.1 c.end_at.result
    (e.failure ∙ l.invariant.1) l.invariant.2 x.failure i.2 i.4 x.takes c.end_at.ensures in
    (i.0 ++ take c.in-Ok.count c.read.new.buf, out.0, Consumes-trans (has c.args.reader.now) (has l.reader) (has c.read.new.self) i.0 _ i.3 e.bytes.0, out.1, out.2)

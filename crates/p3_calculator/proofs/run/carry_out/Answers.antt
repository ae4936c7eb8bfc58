use Rattle.std.proofs.Common.{[], ℕ, List, refl, take, subst}
use Rattle.std.proofs.KnownBytes.{Appends-nil}
use Rattle.p3_calculator.specs.Bank.{state_of}
use Rattle.std.specs.Io.KnownBytes.{Appends}
use Rattle.p3_calculator.proofs.TakenBytes.{goes, faulted, stopped}
use Rattle.p3_calculator.proofs.run.carry_out.Goals as goal

pub returns-in-Err-clause-takes : goal.returns-in-Err-clause-takes
returns-in-Err-clause-takes g c = λ before text st. ([], Appends-nil _, faulted c.args.machine.now before text c.in-Err.fault st c.in-Err.ensures.may)

pub returns-in-Err-write_all-clause-takes : goal.returns-in-Err-write_all-clause-takes
returns-in-Err-write_all-clause-takes g c =
    let contents = g.W.Sink.contents in
    let out = c.in-Ok.text.items in
    let front = c.in-Err-write_all.ensures.front in
    let written = subst (λ (l : List ℕ). Appends (contents c.args.writer.now) (contents c.write_all.new.writer) (take front.0 l)) c.deref.ensures.value front.2 in
    λ before text st. (take front.0 out, written, stopped c.args.machine.now (state_of c.step.new.bank) before text out front.0 st c.in-Ok.ensures.may)

pub returns-clause-takes : goal.returns-clause-takes
returns-clause-takes g c =
    let contents = g.W.Sink.contents in
    let written = subst (λ (l : List ℕ). Appends (contents c.args.writer.now) (contents c.write_all.new.writer) l) c.deref.ensures.value c.in-Ok-write_all.ensures.all in
    λ before text st. (c.in-Ok.text.items, written, goes c.args.machine.now _ before text c.in-Ok.text.items st c.in-Ok.ensures.may refl refl)

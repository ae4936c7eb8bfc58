use Rattle.std.proofs.Common.{[], ℕ, List, refl, take, drop, subst, inl, inr, sym, append-nil}
use Rattle.std.proofs.KnownBytes.{Appends-nil}
use Rattle.std.specs.Io.KnownBytes.{Appends}
use Rattle.p3_calculator.specs.Bank.{state_of}
use Rattle.p3_calculator.specs.Effects.{Continues, Faults}
use Rattle.p3_calculator_text.specs.Faults.{fault_line}
use Rattle.p3_calculator.proofs.TakenBytes.{nothing_left, last_line, front_rest, some_pending}
use Rattle.p3_calculator.proofs.run.finish.Goals as goal

pub returns-then-machine-eq0 : goal.returns-then-machine-eq0
returns-then-machine-eq0 g c = λ bytes text st. ([], Appends-nil _, inl (refl, nothing_left c.args.machine.now bytes text st c.if-machine-eq0.true))

pub returns-in-Err : goal.returns-in-Err
returns-in-Err g c = λ bytes text st.
    let m = c.args.machine.now in
    let line = fault_line m.number c.in-Err.fault in
    let whole = last_line m bytes text line 1 st (some_pending m c.if-machine-eq0.false) (Faults c.in-Err.fault, c.in-Err.ensures.may, (refl, refl)) in
    elim c.end_with.ensures [
      | inl h ↦ (line, h.2, inl (h.1, rw h.0 whole))
      | inr h ↦ (take h.2.0 line, h.2.2, inr (h.0, h.1, (drop h.2.0 line, 1, rw (front_rest text line h.2.0) whole)))
    ]

pub returns-in-Ok-write_all : goal.returns-in-Ok-write_all
returns-in-Ok-write_all g c = λ bytes text st.
    let m = c.args.machine.now in
    let contents = g.W.Sink.contents in
    let out = c.in-Ok.text.items in
    let written = subst (λ (l : List ℕ). Appends (contents c.args.writer.now) (contents c.write_all.new.writer) l) c.deref.ensures.value c.in-Ok-write_all.ensures.all in (
      out,
      written,
      inl (
        c.in-Ok-write_all.ensures.same,
        last_line m bytes text out 0 st (some_pending m c.if-machine-eq0.false) (Continues (state_of c.step.new.bank) out, c.in-Ok.ensures.may, ([], (refl, refl), sym (append-nil out))),
      ),
    )

pub returns : goal.returns
returns g c = λ bytes text st.
    let m = c.args.machine.now in
    let contents = g.W.Sink.contents in
    let out = c.in-Ok.text.items in
    let front = c.in-Err-write_all.ensures.front in
    let written = subst (λ (l : List ℕ). Appends (contents c.args.writer.now) (contents c.write_all.new.writer) (take front.0 l)) c.deref.ensures.value front.2 in
    let whole = last_line m bytes text out 0 st (some_pending m c.if-machine-eq0.false) (Continues (state_of c.step.new.bank) out, c.in-Ok.ensures.may, ([], (refl, refl), sym (append-nil out))) in
    (take front.0 out, written, inr (refl, c.in-Err-write_all.ensures.failed, (drop front.0 out, 0, rw (front_rest text out front.0) whole)))

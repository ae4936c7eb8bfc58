use Rattle.std.proofs.Common.{◌≡◌, ◌<◌, ◌∙◌, length, arith, sym, get_or}
use Rattle.p3_calculator_text.proofs.WordLemmas.{first_word, apart}
use Rattle.p3_calculator_text.proofs.words.next_word.Goals as goal
use Rattle.p3_calculator_text.proofs.words.next_word.Goals.{then-loop-start-test+else-line-start-eq32, else-loop-start-test, then-loop-end-test+else-line-end-ne32, else-loop-end-test}

pub returns-clause-some : goal.returns-clause-some
returns-clause-some c =
    let i = c.loop-end.invariant in
    let last : c.loop-end.end < length c.args.line.now → get_or c.args.line.now c.loop-end.end 0 ≡ 32 = elim c.loop-end-test.branch [ then-loop-end-test+else-line-end-ne32 w ↦ λ h. w.if-line-end-ne32.false | else-loop-end-test w ↦ λ h. absurd (omega arith) ] in
    let first : get_or c.args.line.now c.loop-start.start 0 ≡ 32 → ⊥ = elim c.loop-start-test.branch [ then-loop-start-test+else-line-start-eq32 w ↦ w.if-line-start-eq32.false | else-loop-start-test w ↦ absurd (omega arith) ] in
    sym c.loop-start.invariant.1 ∙ first_word c.args.line.now c.loop-start.start c.loop-end.end (apart c.args.line.now c.loop-start.start c.loop-end.end (omega arith) i.0 last first) i.1 i.2 last

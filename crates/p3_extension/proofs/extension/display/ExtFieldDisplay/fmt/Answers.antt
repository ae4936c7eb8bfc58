use Rattle.std.proofs.Common.{◌≡◌, ◌++◌, ℕ, List, [], Bool, true, false, rules, refl, arith, ◌<◌, length}
use Rattle.std.proofs.Output.{has_written_append}
use Rattle.p3_theory.specs.Polynomials.Text.{next_text}
use Rattle.p3_theory.specs.Polynomials.TextSteps.{term_written, zero_skipped}
use Rattle.p3_extension.proofs.extension.display.ExtFieldDisplay.fmt.Goals as goal
use Rattle.p3_extension.proofs.extension.display.ExtFieldDisplay.fmt.Goals.{then-ne+in_ok-write_next, else-ne}

pub loop-i-init : goal.loop-i-init
loop-i-init g c = ([], λ p. search rules, refl)

pub loop-i-preserved : goal.loop-i-preserved
loop-i-preserved g c =
    let o = g.F.PrimeCharacteristicRing.ops in
    let is_zero : g.row.F.Denot → Bool = λ x. g.F.PartialEq.eq x o.zero in
    let is_one : g.row.F.Denot → Bool = λ x. g.F.PartialEq.eq x o.one in
    let own : g.row.F.Denot → List ℕ = g.F.Field.text in
    let v = c.args.self.now.value in
    let i = c.loop-i.i in
    let x = c.index-self-i.result in
    let text = c.loop-i.invariant.0 in
    let h : i < length v = omega (arith, c.loop-i-test.true, c.args.self.now.sized) in
    elim c.if-ne.branch [
      | then-ne+in_ok-write_next w ↦
          let z : is_zero x ≡ false = search rules in
          let next = next_text c.loop-i.begun i (is_one x) (own x) in (
            text ++ next,
            λ p. has_written_append _ _ _ _ next _ (c.loop-i.invariant.1 p) (search rules),
            rw w.begun-is (term_written is_zero is_one own x text v _ c.loop-i.begun i x h c.index-self-i.is z c.loop-i.invariant.2),
          )
      | else-ne w ↦
          let z : is_zero x ≡ true = search rules in (
            text,
            λ p. rw w.f-is (c.loop-i.invariant.1 p),
            rw w.begun-is (zero_skipped is_zero is_one own x text v _ c.loop-i.begun i x h c.index-self-i.is z c.loop-i.invariant.2),
          )
    ]

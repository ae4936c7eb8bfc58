use Rattle.std.proofs.Common.{◌≡◌, ◌≤◌, ◌<◌, ◌-◌, ◌≢◌, ℕ, length, drop, get_or}
use Rattle.p3_calculator_text.specs.Lines.{words}
use Rattle.p3_calculator_text.proofs.words.next_word.Given as goal

abbrev pub invariant-loop-start : goal.invariant-loop-start
invariant-loop-start l = (l.start ≤ length l.line) × (words (drop l.start l.line) ≡ words l.line)

abbrev pub decreases-loop-start : goal.decreases-loop-start
decreases-loop-start l = length l.line - l.start

abbrev pub invariant-loop-end : goal.invariant-loop-end
invariant-loop-end l = (l.start ≤ l.end) × (l.end ≤ length l.line) × ((k : ℕ) → l.start ≤ k → k < l.end → get_or l.line k 0 ≢ 32)

abbrev pub decreases-loop-end : goal.decreases-loop-end
decreases-loop-end l = length l.line - l.end

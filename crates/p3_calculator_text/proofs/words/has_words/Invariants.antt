use Rattle.std.proofs.Common.{◌≡◌, ◌+◌, length}
use Rattle.p3_calculator_text.specs.Lines.{words}
use Rattle.p3_calculator_text.proofs.words.has_words.Given as goal

abbrev pub invariant-loop : goal.invariant-loop
invariant-loop l = length (words l.line) ≡ length (words l.rest) + l.counter

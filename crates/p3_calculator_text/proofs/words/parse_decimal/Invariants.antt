use Rattle.std.proofs.Common.{◌≡◌, ◌<◌, ◌^◌, drop}
use Rattle.p3_calculator_text.specs.Words.{number_from}
use Rattle.p3_calculator_text.proofs.words.parse_decimal.Given as goal

abbrev pub invariant-loop-b : goal.invariant-loop-b
invariant-loop-b l = (l.n < 10 ^ l.b-index) × (number_from l.n (drop l.b-index l.word) ≡ number_from 0 l.word)

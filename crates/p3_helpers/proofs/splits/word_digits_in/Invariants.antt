use Rattle.std.proofs.Common.{◌≡◌, ◌/◌, ◌%◌, ◌^◌, map}
use Rattle.p3_helpers.specs.Digits.{digits}
use Rattle.p3_helpers.proofs.splits.word_digits_in.Given as goal

abbrev pub invariant-loop : goal.invariant-loop
invariant-loop g l = (l.rem ≡ l.fn.value / (2 ^ 64) ^ l.counter) × (map g.TF.Quotient.canon l.limbs.items ≡ map (λ d. d % g.TF.Quotient.order) (digits l.fn.value (2 ^ 64) l.counter))

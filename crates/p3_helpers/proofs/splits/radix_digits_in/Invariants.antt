use Rattle.std.proofs.Common.{◌≡◌, ◌/◌, ◌^◌, map}
use Rattle.p3_helpers.specs.Digits.{digits}
use Rattle.p3_helpers.proofs.splits.radix_digits_in.Given as goal

abbrev pub invariant-loop : goal.invariant-loop
invariant-loop g l = (l.rem ≡ l.fn.value / (2 ^ l.fn.radix_bits) ^ l.counter) × (map g.TF.Quotient.canon l.limbs.items ≡ digits l.fn.value (2 ^ l.fn.radix_bits) l.counter)

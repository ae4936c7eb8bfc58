use Rattle.std.proofs.Common.{◌≡◌, ◌<◌, ◌≤◌, ◌^◌, ◌++◌, length, drop, decimal}
use Rattle.p3_calculator_text.proofs.report.write_digits.Given as goal

abbrev pub invariant-digits : goal.invariant-digits
invariant-digits l = (0 < l.at) × (l.at ≤ 39) × (length l.digits ≡ 39) × (l.rest < 10 ^ l.at) × (decimal l.rest ++ drop l.at l.digits ≡ decimal l.number)

abbrev pub decreases-digits : goal.decreases-digits
decreases-digits l = l.at

use Rattle.std.proofs.Common.{◌^◌}
use Rattle.p3_helpers.proofs.EqualDigits.{IsCounted}
use Rattle.p3_helpers.proofs.limits.digits_below.Given as goal

abbrev pub invariant-loop-k : goal.invariant-loop-k
invariant-loop-k l = IsCounted l.fn.greatest (2 ^ l.fn.radix_bits) l.fn.order l.k l.sum l.power

use Rattle.std.proofs.Common.{◌≡◌, ◌<◌, ◌^◌}
use Rattle.p3_helpers.proofs.limits.powers_below.Given as goal

abbrev pub invariant-loop-k : goal.invariant-loop-k
invariant-loop-k l = (l.power ≡ l.fn.p ^ l.k) × (l.power < 340282366920938463463374607431768211456) × (0 < l.k → l.power < l.fn.order)

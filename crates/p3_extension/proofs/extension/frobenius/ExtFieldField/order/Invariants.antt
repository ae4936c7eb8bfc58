use Rattle.std.proofs.Common.{◌≡◌, ◌<◌, ◌^◌}
use Rattle.p3_extension.proofs.extension.frobenius.ExtFieldField.order.Given as goal

abbrev pub invariant-loop : goal.invariant-loop
invariant-loop g l = record { is_power : l.order ≡ l.base ^ l.counter; fits : l.order < 2 ^ 128 }

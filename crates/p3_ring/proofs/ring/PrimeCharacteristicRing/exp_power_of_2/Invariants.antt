use Rattle.std.proofs.Common.{◌≡◌, ◌^◌}
use Rattle.p3_theory.specs.Rings.Powers.{power}
use Rattle.p3_ring.proofs.ring.PrimeCharacteristicRing.exp_power_of_2.Given as goal

abbrev pub invariant-loop : goal.invariant-loop
invariant-loop g l = l.power ≡ power g.Self.PrimeCharacteristicRing.ops l.self (2 ^ l.counter)

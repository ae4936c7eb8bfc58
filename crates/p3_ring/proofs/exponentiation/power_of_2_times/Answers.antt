use Rattle.std.proofs.Common.{◌^◌}
use Rattle.p3_theory.specs.Rings.PowerChains.{product_of_powers, power_of_power}
use Rattle.p3_ring.proofs.exponentiation.power_of_2_times.Goals as goal

pub returns : goal.returns
returns g c = λ x m n p q.
    let met = g.met.R.PrimeCharacteristicRing in
    let squared = power_of_power met.ring (2 ^ c.args.power_log) c.exp_power_of_2.ensures p in
    product_of_powers met.ring (met.muls.exact _ _ _ c.mul.ensures) squared q

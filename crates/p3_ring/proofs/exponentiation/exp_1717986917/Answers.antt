use Rattle.std.proofs.Common.{◌^◌}
use Rattle.p3_theory.specs.Rings.PowerChains.{IsPower, first_power, product_of_powers, power_of_power}
use Rattle.p3_ring.proofs.exponentiation.exp_1717986917.Goals as goal

pub returns : goal.returns
returns g c =
    let m = g.met.R.PrimeCharacteristicRing in
    let x = c.args.val in
    let P = IsPower g.R.PrimeCharacteristicRing.ops x in
    let is1 : P 1 x = first_power m.ring x in
    let is10 : P 2 c.square-p10.result = product_of_powers m.ring c.square-p10.ensures is1 is1 in
    let is11 : P 3 c.mul-p11.result = product_of_powers m.ring (m.muls.exact _ _ _ c.mul-p11.ensures) is10 is1 in
    let is101 : P 5 c.mul-p101.result = product_of_powers m.ring (m.muls.exact _ _ _ c.mul-p101.ensures) is10 is11 in
    let is110011 : P 51 c.power_of_2_times-p110011.result = c.power_of_2_times-p110011.ensures x 3 3 is11 is11 in
    let is11001100000000 : P 13056 c.exp_power_of_2-p11001100000000.result = power_of_power m.ring (2 ^ 8) c.exp_power_of_2-p11001100000000.ensures is110011 in
    let is11001100110011 : P 13107 c.mul-p11001100110011.result = product_of_powers m.ring (m.muls.exact _ _ _ c.mul-p11001100110011.ensures) is11001100000000 is110011 in
    let is1100110011001100110011 : P 3355443 c.power_of_2_times-p1100110011001100110011.result = c.power_of_2_times-p1100110011001100110011.ensures x 13056 13107 is11001100000000 is11001100110011 in
    let is11001100110011001100110011 : P 53687091 c.power_of_2_times-p11001100110011001100110011.result = c.power_of_2_times-p11001100110011001100110011.ensures x 3355443 3 is1100110011001100110011 is11 in
    (c.power_of_2_times.ensures x 53687091 5 is11001100110011001100110011 is101).is

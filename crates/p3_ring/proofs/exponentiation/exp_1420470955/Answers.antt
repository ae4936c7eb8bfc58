use Rattle.std.proofs.Common.{◌^◌}
use Rattle.p3_theory.specs.Rings.PowerChains.{IsPower, first_power, product_of_powers, power_of_power}
use Rattle.p3_ring.proofs.exponentiation.exp_1420470955.Goals as goal

pub returns : goal.returns
returns g c =
    let m = g.met.R.PrimeCharacteristicRing in
    let x = c.args.val in
    let P = IsPower g.R.PrimeCharacteristicRing.ops x in
    let is1 : P 1 x = first_power m.ring x in
    let is100 : P 4 c.exp_power_of_2-p100.result = power_of_power m.ring (2 ^ 2) c.exp_power_of_2-p100.ensures is1 in
    let is101 : P 5 c.mul-p101.result = product_of_powers m.ring (m.muls.exact _ _ _ c.mul-p101.ensures) is100 is1 in
    let is10101 : P 21 c.power_of_2_times-p10101.result = c.power_of_2_times-p10101.ensures x 4 5 is100 is101 in
    let is10101000000 : P 1344 c.exp_power_of_2-p10101000000.result = power_of_power m.ring (2 ^ 6) c.exp_power_of_2-p10101000000.ensures is10101 in
    let is10101010101 : P 1365 c.mul-p10101010101.result = product_of_powers m.ring (m.muls.exact _ _ _ c.mul-p10101010101.ensures) is10101000000 is10101 in
    let is101010010101 : P 2709 c.mul-p101010010101.result = product_of_powers m.ring (m.muls.exact _ _ _ c.mul-p101010010101.ensures) is10101000000 is10101010101 in
    let is101010010101010101010101 : P 11097429 c.power_of_2_times-p101010010101010101010101.result = c.power_of_2_times-p101010010101010101010101.ensures x 2709 1365 is101010010101 is10101010101 in
    let is101010010101010101010101010101 : P 710235477 c.power_of_2_times-p101010010101010101010101010101.result = c.power_of_2_times-p101010010101010101010101010101.ensures x 11097429 21 is101010010101010101010101 is10101 in
    (c.power_of_2_times.ensures x 710235477 1 is101010010101010101010101010101 is1).is

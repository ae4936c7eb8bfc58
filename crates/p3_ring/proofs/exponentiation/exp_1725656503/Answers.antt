use Rattle.std.proofs.Common.{◌^◌}
use Rattle.p3_theory.specs.Rings.PowerChains.{IsPower, first_power, product_of_powers, power_of_power}
use Rattle.p3_ring.proofs.exponentiation.exp_1725656503.Goals as goal

pub returns : goal.returns
returns g c =
    let m = g.met.R.PrimeCharacteristicRing in
    let x = c.args.val in
    let P = IsPower g.R.PrimeCharacteristicRing.ops x in
    let is1 : P 1 x = first_power m.ring x in
    let is11 : P 3 c.cube-p11.result = power_of_power m.ring 3 c.cube-p11.ensures is1 in
    let is110 : P 6 c.square-p110.result = product_of_powers m.ring c.square-p110.ensures is11 is11 in
    let is111 : P 7 c.mul-p111.result = product_of_powers m.ring (m.muls.exact _ _ _ c.mul-p111.ensures) is110 is1 in
    let is11000 : P 24 c.exp_power_of_2-p11000.result = power_of_power m.ring (2 ^ 2) c.exp_power_of_2-p11000.ensures is110 in
    let is11011 : P 27 c.mul-p11011.result = product_of_powers m.ring (m.muls.exact _ _ _ c.mul-p11011.ensures) is11000 is11 in
    let is11000000 : P 192 c.exp_power_of_2-p11000000.result = power_of_power m.ring (2 ^ 3) c.exp_power_of_2-p11000000.ensures is11000 in
    let is11011011 : P 219 c.mul-p11011011.result = product_of_powers m.ring (m.muls.exact _ _ _ c.mul-p11011011.ensures) is11000000 is11011 in
    let is110011011 : P 411 c.mul-p110011011.result = product_of_powers m.ring (m.muls.exact _ _ _ c.mul-p110011011.ensures) is11011011 is11000000 in
    let is110011011011011011 : P 210651 c.power_of_2_times-p110011011011011011.result = c.power_of_2_times-p110011011011011011.ensures x 411 219 is110011011 is11011011 in
    let is110011011011011011011011011 : P 107853531 c.power_of_2_times-p110011011011011011011011011.result = c.power_of_2_times-p110011011011011011011011011.ensures x 210651 219 is110011011011011011 is11011011 in
    (c.power_of_2_times.ensures x 107853531 7 is110011011011011011011011011 is111).is

use Rattle.std.proofs.Common.{◌∙◌, ap, sym}
use Rattle.p3_theory.specs.Rings.Powers.{power}
use Rattle.p3_theory.specs.Rings.PowerChains.{IsPower, first_power, product_of_powers, power_of_power}
use Rattle.p3_extension_traits.proofs.const_power.exp_const_u64.Goals as goal

pub returns-in-4 : goal.returns-in-4
returns-in-4 g c =
    let o = g.R.PrimeCharacteristicRing.ops in
    let m = g.met.R.PrimeCharacteristicRing in
    let x = c.args.value.now in
    let is1 : IsPower o x 1 x = first_power m.ring x in
    let is2 : IsPower o x 2 c.square-in-4.result = product_of_powers m.ring c.square-in-4.ensures is1 is1 in
    (product_of_powers m.ring c.square-in-4-2.ensures is2 is2).is ∙ ap (power o x) (sym c.in-4.is)

pub returns-in-5 : goal.returns-in-5
returns-in-5 g c =
    let o = g.R.PrimeCharacteristicRing.ops in
    let m = g.met.R.PrimeCharacteristicRing in
    let x = c.args.value.now in
    let is1 : IsPower o x 1 x = first_power m.ring x in
    let is2 : IsPower o x 2 c.square-in-5.result = product_of_powers m.ring c.square-in-5.ensures is1 is1 in
    let is4 : IsPower o x 4 c.square-in-5-2.result = product_of_powers m.ring c.square-in-5-2.ensures is2 is2 in
    (product_of_powers m.ring (m.muls.exact _ _ _ c.mul.ensures) is4 is1).is ∙ ap (power o x) (sym c.in-5.is)

pub returns-in-6 : goal.returns-in-6
returns-in-6 g c =
    let o = g.R.PrimeCharacteristicRing.ops in
    let m = g.met.R.PrimeCharacteristicRing in
    let x = c.args.value.now in
    let is1 : IsPower o x 1 x = first_power m.ring x in
    let is2 : IsPower o x 2 c.square-in-6.result = product_of_powers m.ring c.square-in-6.ensures is1 is1 in
    (power_of_power m.ring 3 c.cube-in-6.ensures is2).is ∙ ap (power o x) (sym c.in-6.is)

pub returns-in-7 : goal.returns-in-7
returns-in-7 g c =
    let o = g.R.PrimeCharacteristicRing.ops in
    let m = g.met.R.PrimeCharacteristicRing in
    let x = c.args.value.now in
    let is1 : IsPower o x 1 x = first_power m.ring x in
    let is2 : IsPower o x 2 c.square-second.result = product_of_powers m.ring c.square-second.ensures is1 is1 in
    let is3 : IsPower o x 3 c.mul-third.result = product_of_powers m.ring (m.muls.exact _ _ _ c.mul-third.ensures) is2 is1 in
    let is4 : IsPower o x 4 c.square-fourth.result = product_of_powers m.ring c.square-fourth.ensures is2 is2 in
    (product_of_powers m.ring (m.muls.exact _ _ _ c.mul-in-7.ensures) is3 is4).is ∙ ap (power o x) (sym c.in-7.is)

use Rattle.std.proofs.Common.{arith}
use Rattle.p3_residues.proofs.Remainders.{product_fits, back_below, remainder_by_reciprocal, remainder_below}
use Rattle.p3_residues.proofs.remainder.remainder_by_reciprocal.Goals as goal

pub overflow_mul-quotient : goal.overflow_mul-quotient
overflow_mul-quotient c =
    let h = product_fits _ _ _ _ c.requires.below c.ilog2-shift.ensures.power_le c.ilog2-shift.ensures.next_power_gt c.requires.fits c.div_ceil-reciprocal.ensures in
    omega (arith, h)

pub overflow_mul-result : goal.overflow_mul-result
overflow_mul-result c =
    let h = back_below _ _ _ _ c.requires.below c.ilog2-shift.ensures.power_le c.ilog2-shift.ensures.next_power_gt c.requires.fits c.div_ceil-reciprocal.ensures in
    omega (arith, h, c.requires.below)

pub overflow_sub-result : goal.overflow_sub-result
overflow_sub-result c = back_below _ _ _ _ c.requires.below c.ilog2-shift.ensures.power_le c.ilog2-shift.ensures.next_power_gt c.requires.fits c.div_ceil-reciprocal.ensures

pub overflow_cast-result-2 : goal.overflow_cast-result-2
overflow_cast-result-2 c =
    let h = remainder_below _ _ _ _ c.requires.below c.ilog2-shift.ensures.power_le c.ilog2-shift.ensures.next_power_gt c.requires.fits c.div_ceil-reciprocal.ensures in
    omega (arith, h, c.requires.fits)

pub returns : goal.returns
returns c = remainder_by_reciprocal _ _ _ _ c.requires.below c.ilog2-shift.ensures.power_le c.ilog2-shift.ensures.next_power_gt c.requires.fits c.div_ceil-reciprocal.ensures

use Rattle.std.proofs.Common.{◌<◌, ◌≤◌, ◌%◌, ap, arith, length, rules, ◌∙◌}
use Rattle.p3_prime_fields.specs.Elements.{word_number}
use Rattle.p3_slice_kernels.proofs.WordProducts.{pair_sum_below, short_sum_below, words-short}
use Rattle.p3_prime_fields.proofs.montgomery.dot_of_four.Goals as goal

pub sum_last_products-sum-requires-clause-left : goal.sum_last_products-sum-requires-clause-left
sum_last_products-sum-requires-clause-left g c = words-short g.M.MontgomeryModulus.fits (λ x. x.below) c.args.u.now

pub sum_last_products-sum-requires-clause-right : goal.sum_last_products-sum-requires-clause-right
sum_last_products-sum-requires-clause-right g c = words-short g.M.MontgomeryModulus.fits (λ x. x.below) c.args.v.now

pub reduced_pair_sum-requires : goal.reduced_pair_sum-requires
reduced_pair_sum-requires g c =
    let m = g.M.MontgomeryModulus in
    let few : length c.args.u.now ≤ 2 = search rules in
    let positive : 0 < m.ORDER = omega (arith, m.above_one) in
    omega (arith, pair_sum_below word_number m.ORDER m.fits positive (λ x. x.below) c.args.u.now c.args.v.now few, c.sum_last_products-sum.ensures)

pub reduced_short_sum-requires : goal.reduced_short_sum-requires
reduced_short_sum-requires g c =
    let m = g.M.MontgomeryModulus in
    let positive : 0 < m.ORDER = omega (arith, m.above_one) in
    omega (arith, short_sum_below word_number m.ORDER m.fits positive (λ x. x.below) c.args.u.now c.args.v.now c.requires.few, c.sum_last_products-sum.ensures)

pub returns-then-u-le2-clause-value : goal.returns-then-u-le2-clause-value
returns-then-u-le2-clause-value g c = c.reduced_pair_sum.ensures.value ∙ ap (λ z. z % g.M.MontgomeryModulus.ORDER) c.sum_last_products-sum.ensures

pub returns-else-u-le2-clause-value : goal.returns-else-u-le2-clause-value
returns-else-u-le2-clause-value g c = c.reduced_short_sum.ensures.value ∙ ap (λ z. z % g.M.MontgomeryModulus.ORDER) c.sum_last_products-sum.ensures

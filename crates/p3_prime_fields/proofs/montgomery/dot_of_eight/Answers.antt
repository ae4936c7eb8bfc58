use Rattle.std.proofs.Common.{◌≡◌, ◌<◌, ◌≤◌, ◌+◌, ◌%◌, ap, arith, drop, length, rules, take, ◌∙◌}
use Rattle.std.proofs.lemmas.List.{length-drop}
use Rattle.p3_theory.specs.ResidueRings.SumsOfProducts.{sum_of_products, products-split}
use Rattle.p3_prime_fields.specs.Elements.{word_number}
use Rattle.p3_slice_kernels.proofs.WordProducts.{short_sum_below, words-short}
use Rattle.p3_prime_fields.proofs.montgomery.dot_of_eight.Goals as goal

pub sum_last_products-first-requires-clause-left : goal.sum_last_products-first-requires-clause-left
sum_last_products-first-requires-clause-left g c = words-short g.M.MontgomeryModulus.fits (λ x. x.below) (take 4 c.args.u.now)

pub sum_last_products-first-requires-clause-right : goal.sum_last_products-first-requires-clause-right
sum_last_products-first-requires-clause-right g c = words-short g.M.MontgomeryModulus.fits (λ x. x.below) (take 4 c.args.v.now)

pub sum_last_products-last-requires-clause-left : goal.sum_last_products-last-requires-clause-left
sum_last_products-last-requires-clause-left g c = words-short g.M.MontgomeryModulus.fits (λ x. x.below) c.args.u.now

pub sum_last_products-last-requires-clause-right : goal.sum_last_products-last-requires-clause-right
sum_last_products-last-requires-clause-right g c = words-short g.M.MontgomeryModulus.fits (λ x. x.below) c.args.v.now

pub reduced_pair_of_sums-requires-clause-first : goal.reduced_pair_of_sums-requires-clause-first
reduced_pair_of_sums-requires-clause-first g c =
    let m = g.M.MontgomeryModulus in
    let few : length (take 4 c.args.u.now) ≤ 4 = search rules in
    let positive : 0 < m.ORDER = omega (arith, m.above_one) in
    omega (arith, short_sum_below word_number m.ORDER m.fits positive (λ x. x.below) (take 4 c.args.u.now) (take 4 c.args.v.now) few, c.sum_last_products-first.ensures)

pub reduced_pair_of_sums-requires-clause-last : goal.reduced_pair_of_sums-requires-clause-last
reduced_pair_of_sums-requires-clause-last g c =
    let m = g.M.MontgomeryModulus in
    let few : length (drop 4 c.args.u.now) ≤ 4 = omega (arith, length-drop 4 c.args.u.now, c.requires.few) in
    let positive : 0 < m.ORDER = omega (arith, m.above_one) in
    omega (arith, short_sum_below word_number m.ORDER m.fits positive (λ x. x.below) (drop 4 c.args.u.now) (drop 4 c.args.v.now) few, c.sum_last_products-last.ensures)

pub returns-clause-value : goal.returns-clause-value
returns-clause-value g c =
    let u = c.args.u.now in
    let v = c.args.v.now in
    let all : c.sum_last_products-first.result + c.sum_last_products-last.result ≡ sum_of_products word_number u v =
    omega (arith, products-split word_number 4 u v, c.sum_last_products-first.ensures, c.sum_last_products-last.ensures) in
    c.reduced_pair_of_sums.ensures.value ∙ ap (λ z. z % g.M.MontgomeryModulus.ORDER) all

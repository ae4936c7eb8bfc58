use Rattle.std.proofs.Common.{arith, rules, get_or, ◌≡◌, ◌≤◌, ◌*◌, ◌%◌, ◌^◌, ◌∙◌, ap}
use Rattle.std.proofs.Math.Nat.{mod-mod, mul-one}
use Rattle.p3_prime_fields.proofs.LaneValues.{own_scale, value_of_product, words_below}
use Rattle.p3_prime_fields.proofs.lane_products.small_products.Goals as goal

pub multiply_small_arrays-products-requires : goal.multiply_small_arrays-products-requires
multiply_small_arrays-products-requires g c =
    let w = g.W.Form in
    let order : c.ORDER.result ≡ w.ORDER = c.ORDER.ensures in
    let fits : c.ORDER.result ≤ 2 ^ 8 = omega (arith, order, c.requires.small) in
    let left = words_below w c.ORDER.result g.row.N order c.words_of-x.result c.args.left.now c.words_of-x.ensures.words in
    let right = words_below w c.ORDER.result g.row.N order c.words_of-y.result c.args.right.now c.words_of-y.ensures.words in
    search (rules, fits, left, right)

pub returns-clause-lanes : goal.returns-clause-lanes
returns-clause-lanes g c d k l =
    let w = g.W.Form in
    let order = c.ORDER.ensures in
    let r = c.values_of.ensures.words 0 d k l in
    let x = c.words_of-x.ensures.words 0 d k l in
    let y = c.words_of-y.ensures.words 0 d k l in
    let product = c.multiply_small_arrays-products.ensures.value k l ∙ (λ ι. (x ι * y ι) % order ι) in
    value_of_product w 1 (own_scale w c.requires.plain) (get_or c.args.left.now k d) (get_or c.args.right.now k d) (get_or c.values_of.result k d)
    (ap (λ n. n % w.ORDER) (mul-one _ ∙ r ∙ product) ∙ mod-mod _ w.ORDER)

use Rattle.std.proofs.Common.{arith, rules, get_or, ◌≡◌, ◌<◌, ◌*◌, ◌%◌, ◌^◌, ◌∙◌, sym}
use Rattle.p3_prime_fields.proofs.LaneValues.{value_of_product, words_below}
use Rattle.p3_prime_fields.proofs.lane_products.montgomery_products.Goals as goal

pub words_of-x-requires : goal.words_of-x-requires
words_of-x-requires g c = let short = (g.W.Form.montgomery c.requires.by_vectors).short in search (rules, short)

pub words_of-y-requires : goal.words_of-y-requires
words_of-y-requires g c = let short = (g.W.Form.montgomery c.requires.by_vectors).short in search (rules, short)

pub multiply_arrays-products-requires : goal.multiply_arrays-products-requires
multiply_arrays-products-requires g c =
    let w = g.W.Form in
    let form = w.montgomery c.requires.by_vectors in
    let order : c.ORDER.result ≡ w.ORDER = c.ORDER.ensures in
    let fits : c.ORDER.result < 2 ^ 31 = omega (arith, order, form.short) in
    let inverts : (c.ORDER.result * c.INVERSE.result) % 2 ^ 32 ≡ 1 = (λ ι. (order ι * c.INVERSE.ensures ι) % 2 ^ 32) ∙ form.inverts_order in
    let left = words_below w c.ORDER.result g.row.N order c.words_of-x.result c.args.left.now c.words_of-x.ensures.words in
    search (rules, fits, inverts, left)

pub returns-clause-lanes : goal.returns-clause-lanes
returns-clause-lanes g c d k l =
    let w = g.W.Form in
    let order = c.ORDER.ensures in
    let r = c.values_of.ensures.words 0 d k l in
    let x = c.words_of-x.ensures.words 0 d k l in
    let y = c.words_of-y.ensures.words 0 d k l in
    value_of_product w (2 ^ 32) (w.montgomery c.requires.by_vectors).undoes_scale (get_or c.args.left.now k d) (get_or c.args.right.now k d) (get_or c.values_of.result k d)
    ((λ ι. (r ι * 2 ^ 32) % sym order ι) ∙ c.multiply_arrays-products.ensures.value k l ∙ (λ ι. (x ι * y ι) % order ι))

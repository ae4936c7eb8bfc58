use Rattle.std.proofs.Common.{rules, get_or, ◌≡◌, ◌<◌, ◌+◌, ◌%◌, ◌^◌, ◌∙◌}
use Rattle.p3_prime_fields.proofs.LaneValues.{value_of_sum, words_below}
use Rattle.p3_prime_fields.proofs.lane_sums.lane_sums.Goals as goal

pub add_arrays-sums-requires : goal.add_arrays-sums-requires
add_arrays-sums-requires g c =
    let w = g.W.Form in
    let order : c.ORDER-then-this-le-MOST_LANES.result ≡ w.ORDER = c.ORDER-then-this-le-MOST_LANES.ensures in
    let fits : c.ORDER-then-this-le-MOST_LANES.result < 2 ^ 31 = search rules in
    let left = words_below w c.ORDER-then-this-le-MOST_LANES.result g.row.N order c.words_of-x.result c.args.left.now c.words_of-x.ensures.words in
    let right = words_below w c.ORDER-then-this-le-MOST_LANES.result g.row.N order c.words_of-y.result c.args.right.now c.words_of-y.ensures.words in
    search (rules, fits, left, right)

pub returns-then-this-le-MOST_LANES-clause-lanes : goal.returns-then-this-le-MOST_LANES-clause-lanes
returns-then-this-le-MOST_LANES-clause-lanes g c d k l =
    let order = c.ORDER-then-this-le-MOST_LANES.ensures in
    let x = c.words_of-x.ensures.words 0 d k l in
    let y = c.words_of-y.ensures.words 0 d k l in
    value_of_sum g.W.Form (get_or c.args.left.now k d) (get_or c.args.right.now k d) (get_or c.values_of.result k d)
    (c.values_of.ensures.words 0 d k l ∙ c.add_arrays-sums.ensures.lanes k l ∙ (λ ι. (x ι + y ι) % order ι))

use Rattle.std.proofs.Common.{rules, get_or, ◌≡◌, ◌<◌, ◌+◌, ◌-◌, ◌%◌, ◌^◌, ◌∙◌}
use Rattle.p3_prime_fields.proofs.LaneValues.{value_of_difference, words_below}
use Rattle.p3_packed_prime_fields.proofs.lane_arithmetic.FpLaneArithmetic.lane_differences.Goals as goal

pub subtract_arrays-differences-requires : goal.subtract_arrays-differences-requires
subtract_arrays-differences-requires g c =
    let w = g.W.Form in
    let order : c.ORDER-then-this-le-MOST_LANES.result ≡ w.ORDER = c.ORDER-then-this-le-MOST_LANES.ensures in
    let fits : c.ORDER-then-this-le-MOST_LANES.result < 2 ^ 31 = search rules in
    let left = words_below w c.ORDER-then-this-le-MOST_LANES.result g.row.N order c.words_of-x.result c.args.left.now c.words_of-x.ensures.words in
    let right = words_below w c.ORDER-then-this-le-MOST_LANES.result g.row.N order c.words_of-y.result c.args.right.now c.words_of-y.ensures.words in
    search (rules, fits, left, right)

pub returns-then-this-le-MOST_LANES-clause-lanes : goal.returns-then-this-le-MOST_LANES-clause-lanes
returns-then-this-le-MOST_LANES-clause-lanes g c d k l =
    let order = c.ORDER-then-this-le-MOST_LANES.ensures in
    let x = c.words_of-x.ensures.words 0 d k l in
    let y = c.words_of-y.ensures.words 0 d k l in
    value_of_difference g.W.Form (get_or c.args.left.now k d) (get_or c.args.right.now k d) (get_or c.values_of.result k d)
    (c.values_of.ensures.words 0 d k l ∙ c.subtract_arrays-differences.ensures.lanes k l ∙ (λ ι. (x ι + (order ι - y ι)) % order ι))

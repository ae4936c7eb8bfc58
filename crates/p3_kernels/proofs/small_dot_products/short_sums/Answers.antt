use Rattle.std.proofs.Common.{◌≡◌, ◌≤◌, ◌%◌, ◌∙◌, ap, arith, length, rules, subst, sym}
use Rattle.p3_kernels.proofs.SmallDotProducts.{sums_lane}
use Rattle.p3_kernels.proofs.small_dot_products.short_sums.Goals as goal

pub short_remainders-requires : goal.short_remainders-requires
short_remainders-requires g c =
    let four_left : length c.args.left ≡ 4 = search rules in
    let four_right : length c.args.right ≡ 4 = search rules in
    let sum =
    sums_lane g.row.N c.args.left c.args.right c.sums_of_two-first.result c.sums_of_two-last.result c.sums_of_two-first.ensures.width c.sums_of_two-last.ensures.width
    four_left four_right (λ j h. let m = c.requires.most j h in omega (arith, m)) c.sums_of_two-first.ensures.lanes c.sums_of_two-last.ensures.lanes in
    (omega arith, (c.requires.some, λ k l. subst (λ z. z ≤ c.args.most) (sym (sum k l)) (c.requires.most k l)))

pub returns-clause-value : goal.returns-clause-value
returns-clause-value g c k l =
    let four_left : length c.args.left ≡ 4 = search rules in
    let four_right : length c.args.right ≡ 4 = search rules in
    let sum =
    sums_lane g.row.N c.args.left c.args.right c.sums_of_two-first.result c.sums_of_two-last.result c.sums_of_two-first.ensures.width c.sums_of_two-last.ensures.width
    four_left four_right (λ j h. let m = c.requires.most j h in omega (arith, m)) c.sums_of_two-first.ensures.lanes c.sums_of_two-last.ensures.lanes in
    c.short_remainders.ensures.lanes k l ∙ ap (λ z. z % c.args.order) (sum k l)

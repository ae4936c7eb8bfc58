use Rattle.std.proofs.Common.{◌≤◌, ◌%◌, ◌∙◌, ap, arith, subst, sym}
use Rattle.p3_kernels.proofs.SmallProducts.{exact_lane}
use Rattle.p3_kernels.proofs.small_products.short_products.Goals as goal

pub short_remainders-requires : goal.short_remainders-requires
short_remainders-requires g c =
    let short = exact_lane g.row.N c.args.left c.args.right c.fits-left.0 c.fits-right.0 (λ j h. let m = c.requires.most j h in omega (arith, m)) in
    (omega arith, (c.requires.some, λ k l. subst (λ z. z ≤ c.args.most) (sym (short k l)) (c.requires.most k l)))

pub returns-clause-value : goal.returns-clause-value
returns-clause-value g c k l =
    let short = exact_lane g.row.N c.args.left c.args.right c.fits-left.0 c.fits-right.0 (λ j h. let m = c.requires.most j h in omega (arith, m)) in
    c.short_remainders.ensures.lanes k l ∙ ap (λ z. z % c.args.order) (short k l)

use Rattle.std.proofs.Common.{get_or, arith, ◌≡◌, ◌+◌, ◌*◌, ◌%◌, ◌^◌, ◌<◌, ◌∙◌, ap, subst, sym, w32}
use Rattle.std.proofs.lemmas.Simd.{below_from_Fits}
use Rattle.p3_residues.proofs.Reductions.{product_below}
use Rattle.p3_kernels.proofs.HalfLanes.{by_halves}
use Rattle.p3_kernels.proofs.LaneOperations.{all_below}
use Rattle.p3_kernels.specs.Words.{product_at}
use Rattle.p3_kernels.proofs.montgomery_blocks.montgomery_products_8.Goals as goal

pub reduce_8-requires-clause-even : goal.reduce_8-requires-clause-even
reduce_8-requires-clause-even c k l =
    let fits = all_below 32 c.args.right (below_from_Fits w32 c.args.right c.fits-right.1) in
    subst (λ z. z < c.args.order * 2 ^ 32) (sym (c.wide_products_8-products.ensures.even k l))
    (product_below c.args.order (get_or c.args.left (2 * k) 0) (get_or c.args.right (2 * k) 0) (c.requires.left (2 * k) (omega (arith, l))) (fits (2 * k)))

pub reduce_8-requires-clause-odd : goal.reduce_8-requires-clause-odd
reduce_8-requires-clause-odd c k l =
    let fits = all_below 32 c.args.right (below_from_Fits w32 c.args.right c.fits-right.1) in
    subst (λ z. z < c.args.order * 2 ^ 32) (sym (c.wide_products_8-products.ensures.odd k l))
    (product_below c.args.order (get_or c.args.left (2 * k + 1) 0) (get_or c.args.right (2 * k + 1) 0) (c.requires.left (2 * k + 1) (omega (arith, l))) (fits (2 * k + 1)))

pub returns-clause-value : goal.returns-clause-value
returns-clause-value c =
    let p = c.args.order in
    by_halves 4 (λ k. (get_or c.reduce_8.result k 0 * 2 ^ 32) % c.args.order ≡ product_at c.args.left c.args.right k % c.args.order)
    (λ k l. c.reduce_8.ensures.even k l ∙ ap (λ z. z % p) (c.wide_products_8-products.ensures.even k l))
    (λ k l. c.reduce_8.ensures.odd k l ∙ ap (λ z. z % p) (c.wide_products_8-products.ensures.odd k l))

use Rattle.std.proofs.Common.{◌*◌, ◌∙◌, w32}
use Rattle.std.proofs.lemmas.Simd.{below_from_Fits}
use Rattle.p3_kernels.proofs.HalfLanes.{high_of_pair, low_of_pair}
use Rattle.p3_kernels.proofs.LaneOperations.{all_below}
use Rattle.p3_kernels.proofs.wide_products.wide_products_8.Goals as goal

pub returns-clause-even : goal.returns-clause-even
returns-clause-even c k l =
    let a = low_of_pair 4 c.args.left c.pairs_of_8-x.result (all_below 32 c.args.left (below_from_Fits w32 c.args.left c.fits-left.1)) c.pairs_of_8-x.ensures.pairs k l in
    let b = low_of_pair 4 c.args.right c.pairs_of_8-y.result (all_below 32 c.args.right (below_from_Fits w32 c.args.right c.fits-right.1)) c.pairs_of_8-y.ensures.pairs k l in
    c.low_products-even.ensures.lanes k l ∙ (λ ι. a ι * b ι)

pub returns-clause-odd : goal.returns-clause-odd
returns-clause-odd c k l =
    let a = high_of_pair 4 c.args.left c.pairs_of_8-x.result (all_below 32 c.args.left (below_from_Fits w32 c.args.left c.fits-left.1)) c.pairs_of_8-x.ensures.pairs k l in
    let b = high_of_pair 4 c.args.right c.pairs_of_8-y.result (all_below 32 c.args.right (below_from_Fits w32 c.args.right c.fits-right.1)) c.pairs_of_8-y.ensures.pairs k l in
    c.high_products-odd.ensures.lanes k l ∙ (λ ι. a ι * b ι)

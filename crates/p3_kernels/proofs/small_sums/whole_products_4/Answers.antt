use Rattle.std.proofs.Common.{arith}
use Rattle.p3_kernels.proofs.SmallProducts.{exact_lane, halves_short, joined_exact, times}
use lib.Lanes.{zip2}
use Rattle.p3_kernels.proofs.small_sums.whole_products_4.Goals as goal

pub returns-clause-lanes : goal.returns-clause-lanes
returns-clause-lanes c =
    let x = c.halfwords_of_4-x in
    let y = c.halfwords_of_4-y in
    let short = halves_short 4 256 c.args.left c.args.right x.result y.result (omega arith) c.requires.left c.requires.right x.ensures.even x.ensures.odd y.ensures.even y.ensures.odd in
    joined_exact 4 256 c.args.left c.args.right x.result y.result (omega arith) c.requires.left c.requires.right x.ensures.even x.ensures.odd y.ensures.even y.ensures.odd
    (zip2 times x.result y.result) c.join_halfwords_4.result (exact_lane 8 x.result y.result x.ensures.width y.ensures.width short) c.join_halfwords_4.ensures.words

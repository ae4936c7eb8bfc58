use Rattle.std.proofs.Common.{arith}
use Rattle.p3_kernels.proofs.PairReductions.{even_reduced, odd_reduced, sums_below}
use Rattle.p3_kernels.proofs.Reductions.{negated}
use Rattle.p3_kernels.proofs.lane_reductions.reduce_4.Goals as goal

pub reduce_once-requires : goal.reduce_once-requires
reduce_once-requires c = (
  omega arith,
  (
    c.requires.fits,
    sums_below 2 c.args.order _ c.args.even c.args.odd c.with_multiples-even_sums.result c.with_multiples-odd_sums.result c.pair_high_words-highs.result c.words_of_4-words.result
        c.requires.fits c.requires.even c.requires.odd c.with_multiples-even_sums.ensures.lanes c.with_multiples-odd_sums.ensures.lanes
        (c.pair_high_words-highs.ensures.lanes, c.words_of_4-words.ensures.even, c.words_of_4-words.ensures.odd),
  ),
)

pub returns-clause-even : goal.returns-clause-even
returns-clause-even c =
    even_reduced 2 c.args.order _ c.args.even c.args.odd c.with_multiples-even_sums.result c.with_multiples-odd_sums.result c.pair_high_words-highs.result c.words_of_4-words.result
    c.requires.fits c.requires.even c.requires.odd c.with_multiples-even_sums.ensures.lanes c.with_multiples-odd_sums.ensures.lanes
    (c.pair_high_words-highs.ensures.lanes, c.words_of_4-words.ensures.even, c.words_of_4-words.ensures.odd)
    (negated c.args.order c.args.inverse c.requires.inverse c.ranges.inverse.fits) c.reduce_once.result c.reduce_once.ensures.lanes

pub returns-clause-odd : goal.returns-clause-odd
returns-clause-odd c =
    odd_reduced 2 c.args.order _ c.args.even c.args.odd c.with_multiples-even_sums.result c.with_multiples-odd_sums.result c.pair_high_words-highs.result c.words_of_4-words.result
    c.requires.fits c.requires.even c.requires.odd c.with_multiples-even_sums.ensures.lanes c.with_multiples-odd_sums.ensures.lanes
    (c.pair_high_words-highs.ensures.lanes, c.words_of_4-words.ensures.even, c.words_of_4-words.ensures.odd)
    (negated c.args.order c.args.inverse c.requires.inverse c.ranges.inverse.fits) c.reduce_once.result c.reduce_once.ensures.lanes

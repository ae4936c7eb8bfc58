use Rattle.std.proofs.Common.{arith, get_or, ◌+◌, ◌-◌, ◌%◌, ◌<◌, ◌∙◌, ap, subst, sym, w64}
use Rattle.std.proofs.Math.Nat.{mod-lt}
use Rattle.std.proofs.lemmas.Simd.{below_from_Fits, get_or-replicate}
use Rattle.p3_kernels.proofs.LaneOperations.{all_below}
use Rattle.p3_kernels.proofs.PairReductions.{ends_below, even_sum_reduced, odd_sum_reduced, short_sums_below}
use Rattle.p3_kernels.proofs.Reductions.{positive}
use Rattle.p3_kernels.proofs.lane_reductions.reduce_short_sums_4.Goals as goal

pub reduce_once-residues-requires : goal.reduce_once-residues-requires
reduce_once-residues-requires c = (
  omega arith,
  (
    c.requires.fits,
    short_sums_below 2 c.args.order c.args.inverse c.args.even c.args.odd c.pair_high_words-highs.result c.words_of_4-words.result
        (all_below 64 c.args.even (below_from_Fits w64 c.args.even c.fits-even.1))
        (c.pair_high_words-highs.ensures.lanes, c.words_of_4-words.ensures.even, c.words_of_4-words.ensures.odd)
        c.requires.even c.requires.odd,
  ),
)

pub uint32x4_mod_sub-requires-clause-order : goal.uint32x4_mod_sub-requires-clause-order
uint32x4_mod_sub-requires-clause-order c k l = let s = get_or-replicate 4 k c.args.order 0 l in omega (arith, s, c.requires.fits)

pub uint32x4_mod_sub-requires-clause-left : goal.uint32x4_mod_sub-requires-clause-left
uint32x4_mod_sub-requires-clause-left c k l =
    let s = get_or-replicate 4 k c.args.order 0 l in
    let r = c.reduce_once-residues.ensures.lanes k l in
    let b = mod-lt (get_or c.words_of_4-words.result k 0) (positive c.args.order c.args.inverse c.requires.inverse) in
    omega (arith, s, r, b)

pub uint32x4_mod_sub-requires-clause-right : goal.uint32x4_mod_sub-requires-clause-right
uint32x4_mod_sub-requires-clause-right c k l =
    let s = get_or-replicate 4 k c.args.order 0 l in
    let b =
    ends_below 2 c.args.order c.args.inverse c.args.even c.args.odd c.pair_high_words-highs.result c.words_of_4-words.result
    (all_below 64 c.args.even (below_from_Fits w64 c.args.even c.fits-even.1))
    (c.pair_high_words-highs.ensures.lanes, c.words_of_4-words.ensures.even, c.words_of_4-words.ensures.odd)
    c.requires.fits c.requires.inverse c.multiples-even_multiples.result c.multiples-odd_multiples.result c.pair_high_words-lows.result c.words_of_4-ends.result
    c.multiples-even_multiples.ensures.lanes c.multiples-odd_multiples.ensures.lanes
    (c.pair_high_words-lows.ensures.lanes, c.words_of_4-ends.ensures.even, c.words_of_4-ends.ensures.odd) k l in
    omega (arith, s, b)

pub returns-clause-below : goal.returns-clause-below
returns-clause-below c k l =
    let s = get_or-replicate 4 k c.args.order 0 l in
    let p = c.args.order in
    subst (λ z. z < p) (sym (c.uint32x4_mod_sub.ensures.lanes k l ∙ ap (λ q. (get_or c.reduce_once-residues.result k 0 + (q - get_or c.words_of_4-ends.result k 0)) % q) s))
    (mod-lt (get_or c.reduce_once-residues.result k 0 + (p - get_or c.words_of_4-ends.result k 0)) (positive c.args.order c.args.inverse c.requires.inverse))

pub returns-clause-even : goal.returns-clause-even
returns-clause-even c =
    even_sum_reduced 2 c.args.order c.args.inverse c.args.even c.args.odd c.pair_high_words-highs.result c.words_of_4-words.result
    (all_below 64 c.args.even (below_from_Fits w64 c.args.even c.fits-even.1))
    (c.pair_high_words-highs.ensures.lanes, c.words_of_4-words.ensures.even, c.words_of_4-words.ensures.odd)
    c.requires.fits c.requires.inverse c.multiples-even_multiples.result c.multiples-odd_multiples.result c.pair_high_words-lows.result c.words_of_4-ends.result
    c.multiples-even_multiples.ensures.lanes c.multiples-odd_multiples.ensures.lanes
    (c.pair_high_words-lows.ensures.lanes, c.words_of_4-ends.ensures.even, c.words_of_4-ends.ensures.odd)
    c.reduce_once-residues.result c.uint32x4_mod_sub.result c.reduce_once-residues.ensures.lanes
    (λ k l. c.uint32x4_mod_sub.ensures.lanes k l ∙ ap (λ q. (get_or c.reduce_once-residues.result k 0 + (q - get_or c.words_of_4-ends.result k 0)) % q) (get_or-replicate 4 k c.args.order 0 l))

pub returns-clause-odd : goal.returns-clause-odd
returns-clause-odd c =
    odd_sum_reduced 2 c.args.order c.args.inverse c.args.even c.args.odd c.pair_high_words-highs.result c.words_of_4-words.result
    (all_below 64 c.args.even (below_from_Fits w64 c.args.even c.fits-even.1))
    (c.pair_high_words-highs.ensures.lanes, c.words_of_4-words.ensures.even, c.words_of_4-words.ensures.odd)
    c.requires.fits c.requires.inverse c.multiples-even_multiples.result c.multiples-odd_multiples.result c.pair_high_words-lows.result c.words_of_4-ends.result
    c.multiples-even_multiples.ensures.lanes c.multiples-odd_multiples.ensures.lanes
    (c.pair_high_words-lows.ensures.lanes, c.words_of_4-ends.ensures.even, c.words_of_4-ends.ensures.odd)
    c.reduce_once-residues.result c.uint32x4_mod_sub.result c.reduce_once-residues.ensures.lanes
    (λ k l. c.uint32x4_mod_sub.ensures.lanes k l ∙ ap (λ q. (get_or c.reduce_once-residues.result k 0 + (q - get_or c.words_of_4-ends.result k 0)) % q) (get_or-replicate 4 k c.args.order 0 l))

use Rattle.std.proofs.Common.{get_or, ◌≡◌, ◌+◌, ◌*◌, ◌%◌, ◌<◌, ◌∙◌, ℕ, ap, arith, rules}
use Rattle.p3_kernels.proofs.SumReductions.{high_added, high_is, low_is, with_product_short}
use Rattle.p3_kernels.proofs.row_residues.reduce_sums.Goals as goal

pub returns-clause-even : goal.returns-clause-even
returns-clause-even g c k l =
    let p = c.args.order in
    let square = c.square_of_word-square.result in
    let m = get_or c.reduced-highs.result (2 * k) 0 in
    let low = get_or c.args.sums.even_low k 0 in
    let inside : 2 * k < g.row.L = omega (arith, l, c.requires.pairs) in
    let below = c.reduced-highs.ensures.below (2 * k) inside in
    let fits = c.requires.fits in
    let is = c.low_words-even_highs.ensures.lanes k l
    ∙ low_is (get_or c.pairs-pairs.result k 0) m (get_or c.reduced-highs.result (2 * k + 1) 0) (omega (arith, below, fits)) (c.pairs-pairs.ensures.pairs k l) in
    high_added p square m low (get_or c.args.sums.even_high k 0) (get_or c.reduced.result (2 * k) 0) c.square_of_word-square.ensures.value (c.reduced-highs.ensures.even k l)
    (c.reduced.ensures.even k l ∙ ap (λ z. z % p) (c.add_multiples-even.ensures.lanes k l ∙ ap (λ w. low + w * square) is))

pub returns-clause-odd : goal.returns-clause-odd
returns-clause-odd g c k l =
    let p = c.args.order in
    let square = c.square_of_word-square.result in
    let m = get_or c.reduced-highs.result (2 * k + 1) 0 in
    let low = get_or c.args.sums.odd_low k 0 in
    let inside : 2 * k < g.row.L = omega (arith, l, c.requires.pairs) in
    let below = c.reduced-highs.ensures.below (2 * k) inside in
    let fits = c.requires.fits in
    let is = c.high_words-odd_highs.ensures.lanes k l
    ∙ high_is (get_or c.pairs-pairs.result k 0) (get_or c.reduced-highs.result (2 * k) 0) m (omega (arith, below, fits)) (c.pairs-pairs.ensures.pairs k l) in
    high_added p square m low (get_or c.args.sums.odd_high k 0) (get_or c.reduced.result (2 * k + 1) 0) c.square_of_word-square.ensures.value (c.reduced-highs.ensures.odd k l)
    (c.reduced.ensures.odd k l ∙ ap (λ z. z % p) (c.add_multiples-odd.ensures.lanes k l ∙ ap (λ w. low + w * square) is))

pub reduced-requires : goal.reduced-requires
reduced-requires g c =
    let p = c.args.order in
    let fits = c.requires.fits in
    let inside : (k : ℕ) → k < g.row.H → 2 * k < g.row.L = λ k l. omega (arith, l, c.requires.pairs) in
    let inside_odd : (k : ℕ) → k < g.row.H → 2 * k + 1 < g.row.L = λ k l. omega (arith, l, c.requires.pairs) in
    let even_word : (k : ℕ) → k < g.row.H → get_or c.low_words-even_highs.result k 0 ≡ get_or c.reduced-highs.result (2 * k) 0 =
    λ k l. c.low_words-even_highs.ensures.lanes k l
    ∙ low_is (get_or c.pairs-pairs.result k 0) (get_or c.reduced-highs.result (2 * k) 0) (get_or c.reduced-highs.result (2 * k + 1) 0)
    (let below = c.reduced-highs.ensures.below (2 * k) (inside k l) in omega (arith, below, fits)) (c.pairs-pairs.ensures.pairs k l) in
    let odd_word : (k : ℕ) → k < g.row.H → get_or c.high_words-odd_highs.result k 0 ≡ get_or c.reduced-highs.result (2 * k + 1) 0 =
    λ k l. c.high_words-odd_highs.ensures.lanes k l
    ∙ high_is (get_or c.pairs-pairs.result k 0) (get_or c.reduced-highs.result (2 * k) 0) (get_or c.reduced-highs.result (2 * k + 1) 0)
    (let below = c.reduced-highs.ensures.below (2 * k) (inside k l) in omega (arith, below, fits)) (c.pairs-pairs.ensures.pairs k l) in (
      search rules,
      (
        search rules,
        (
          fits,
          (
            c.requires.inverse,
            (
              λ k l.
                  let short = with_product_short p (get_or c.args.sums.even_low k 0) (get_or c.reduced-highs.result (2 * k) 0) c.square_of_word-square.result
                  c.requires.long fits (c.requires.even_low k l) (c.reduced-highs.ensures.below (2 * k) (inside k l)) c.square_of_word-square.ensures.most in
                  rw (c.add_multiples-even.ensures.lanes k l ∙ ap (λ w. get_or c.args.sums.even_low k 0 + w * c.square_of_word-square.result) (even_word k l)) short,
              λ k l.
                  let short = with_product_short p (get_or c.args.sums.odd_low k 0) (get_or c.reduced-highs.result (2 * k + 1) 0) c.square_of_word-square.result
                  c.requires.long fits (c.requires.odd_low k l) (c.reduced-highs.ensures.below (2 * k + 1) (inside_odd k l)) c.square_of_word-square.ensures.most in
                  rw (c.add_multiples-odd.ensures.lanes k l ∙ ap (λ w. get_or c.args.sums.odd_low k 0 + w * c.square_of_word-square.result) (odd_word k l)) short,
            ),
          ),
        ),
      ),
    )

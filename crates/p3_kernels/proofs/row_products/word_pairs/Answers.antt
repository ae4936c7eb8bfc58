use Rattle.std.proofs.Common.{◌≡◌, ◌<◌, ◌*◌, ◌+◌, ap, arith}
use Rattle.p3_kernels.proofs.row_products.word_pairs.Goals as goal

pub returns-clause-low : goal.returns-clause-low
returns-clause-low g c k l =
    let even : 2 * k < g.row.L = omega (arith, l, c.requires.pairs) in
    omega (arith, c.pairs.ensures.pairs k l, c.lane_words-words.ensures.lanes (2 * k) even, c.lane_words-words.ensures.below (2 * k) even)

pub returns-clause-high : goal.returns-clause-high
returns-clause-high g c k l =
    let even : 2 * k < g.row.L = omega (arith, l, c.requires.pairs) in
    let odd : 2 * k + 1 < g.row.L = omega (arith, l, c.requires.pairs) in
    let next : c.args.lane + (2 * k + 1) ≡ c.args.lane + 2 * k + 1 = omega arith in
    omega (
      arith,
      c.pairs.ensures.pairs k l,
      c.lane_words-words.ensures.lanes (2 * k + 1) odd,
      c.lane_words-words.ensures.below (2 * k) even,
      ap (λ j. g.R.WordRow.word j c.args.row.now) next,
    )

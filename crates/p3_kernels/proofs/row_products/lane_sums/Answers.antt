use Rattle.std.proofs.Common.{◌≡◌, ◌<◌, ◌≤◌, ◌+◌, ◌*◌, ◌%◌, ◌^◌, ◌∙◌, ℕ, arith, length, drop, get_or, ap}
use Rattle.p3_theory.specs.ResidueRings.SumsOfProducts.{products-drop}
use Rattle.p3_kernels.proofs.RowProducts.{added, few_words, low_added, low_few, low_more, none-left, summed_up}
use Rattle.p3_kernels.specs.ProductSums.{low_at}
use Rattle.p3_kernels.proofs.row_products.lane_sums.Goals as goal

pub loop-i-2-preserved : goal.loop-i-2-preserved
loop-i-2-preserved g c =
    let word = g.R.WordRow.word in
    let u = c.args.u.now in
    let v = c.args.v.now in
    let i = c.loop-i-2.i in
    let held = c.loop-i-2.invariant in
    let inside : i < length u = c.loop-i-2-test.true in
    let inside_other : i < length v = omega (arith, inside, c.requires.lengths) in
    let few : i < 2 ^ 16 = omega (arith, inside, c.requires.few) in
    let x = c.index-u-i.result in
    let y = c.index-v-i.result in
    let z = c.index-u-i-in-loop-i-2.result in
    let w = c.index-v-i-in-loop-i-2.result in
    let even : (k : ℕ) → k < g.row.H → get_or c.products_of_rows-last_even.result k 0 ≡ word (c.args.lane + 2 * k) x * word (c.args.lane + 2 * k) y =
    λ k l.
    let product : get_or c.products_of_rows-last_even.result k 0 ≡ word (c.args.lane + 2 * k + 0) x * word (c.args.lane + 2 * k + 0) y = c.products_of_rows-last_even.ensures.value k l in
    product ∙ ap (λ j. word j x * word j y) (omega arith) in
    let odd : (k : ℕ) → k < g.row.H → get_or c.products_of_rows-last_odd.result k 0 ≡ word (c.args.lane + 2 * k + 1) z * word (c.args.lane + 2 * k + 1) w = c.products_of_rows-last_odd.ensures.value in
    let even_low : (k : ℕ) → k < g.row.H → low_at c.add_numbers-even-in-loop-i-2.result c.add_high_words-even_high-in-loop-i-2.result k
    ≡ low_at c.loop-i-2.even c.loop-i-2.even_high k + get_or c.products_of_rows-last_even.result k 0 % 2 ^ 32 =
    λ k l. low_added (get_or c.products_of_rows-last_even.result k 0) (get_or c.add_numbers-even-in-loop-i-2.result k 0) (get_or c.add_high_words-even_high-in-loop-i-2.result k 0)
    (get_or c.loop-i-2.even k 0) (get_or c.loop-i-2.even_high k 0) (c.add_numbers-even-in-loop-i-2.ensures.lanes k l) (c.add_high_words-even_high-in-loop-i-2.ensures.value k l)
    (low_few i (low_at c.loop-i-2.even c.loop-i-2.even_high k) few (held.2 k l)) in
    let odd_low : (k : ℕ) → k < g.row.H → low_at c.add_numbers-odd-in-loop-i-2.result c.add_high_words-odd_high-in-loop-i-2.result k
    ≡ low_at c.loop-i-2.odd c.loop-i-2.odd_high k + get_or c.products_of_rows-last_odd.result k 0 % 2 ^ 32 =
    λ k l. low_added (get_or c.products_of_rows-last_odd.result k 0) (get_or c.add_numbers-odd-in-loop-i-2.result k 0) (get_or c.add_high_words-odd_high-in-loop-i-2.result k 0)
    (get_or c.loop-i-2.odd k 0) (get_or c.loop-i-2.odd_high k 0) (c.add_numbers-odd-in-loop-i-2.ensures.lanes k l) (c.add_high_words-odd_high-in-loop-i-2.ensures.value k l)
    (low_few i (low_at c.loop-i-2.odd c.loop-i-2.odd_high k) few (held.3 k l)) in (
      c.add_high_words-even_high-in-loop-i-2.ensures.step i held.0,
      c.add_high_words-odd_high-in-loop-i-2.ensures.step i held.1,
      λ k l. low_more i (low_at c.add_numbers-even-in-loop-i-2.result c.add_high_words-even_high-in-loop-i-2.result k) (low_at c.loop-i-2.even c.loop-i-2.even_high k)
          (get_or c.products_of_rows-last_even.result k 0) (even_low k l) (held.2 k l),
      λ k l. low_more i (low_at c.add_numbers-odd-in-loop-i-2.result c.add_high_words-odd_high-in-loop-i-2.result k) (low_at c.loop-i-2.odd c.loop-i-2.odd_high k)
          (get_or c.products_of_rows-last_odd.result k 0) (odd_low k l) (held.3 k l),
      λ k l.
          added (get_or c.products_of_rows-last_even.result k 0) _ _ _ _ _ _ _ _ (even_low k l) (c.add_high_words-even_high-in-loop-i-2.ensures.value k l) (even k l)
          (products-drop (word (c.args.lane + 2 * k)) u v i x y inside inside_other c.index-u-i.is c.index-v-i.is) (held.4 k l),
      λ k l.
          added (get_or c.products_of_rows-last_odd.result k 0) _ _ _ _ _ _ _ _ (odd_low k l) (c.add_high_words-odd_high-in-loop-i-2.ensures.value k l) (odd k l)
          (products-drop (word (c.args.lane + 2 * k + 1)) u v i z w inside inside_other c.index-u-i-in-loop-i-2.is c.index-v-i-in-loop-i-2.is) (held.5 k l),
    )

pub returns-clause-even : goal.returns-clause-even
returns-clause-even g c =
    let i = c.loop-i-2.i in
    let held = c.loop-i-2.invariant in
    let said = c.split_sums.ensures in
    let few : i ≤ 2 ^ 16 = omega (arith, c.loop-i-2.auto, c.requires.few) in
    let past : length c.args.u.now ≤ i = omega (arith, c.loop-i-2-test.false) in
    let high : (k : ℕ) → get_or c.split_sums.result.even_high k 0 ≡ get_or c.loop-i-2.even_high k 0 = λ k. ap (λ xs. get_or xs k 0) said.even_high in (
      λ k l. few_words i (get_or c.split_sums.result.even_low k 0) (low_at c.loop-i-2.even c.loop-i-2.even_high k) few (said.even_low k l) (held.2 k l),
      λ k l. few_words i (get_or c.split_sums.result.even_high k 0) (get_or c.loop-i-2.even_high k 0) few (high k) (held.0 k l),
      λ k l.
          summed_up (get_or c.split_sums.result.even_low k 0) (get_or c.split_sums.result.even_high k 0) (low_at c.loop-i-2.even c.loop-i-2.even_high k) (get_or c.loop-i-2.even_high k 0) _ _
          (said.even_low k l) (high k) (none-left (g.R.WordRow.word (c.args.lane + 2 * k)) i c.args.u.now (drop i c.args.v.now) past) (held.4 k l),
    )

pub returns-clause-odd : goal.returns-clause-odd
returns-clause-odd g c =
    let i = c.loop-i-2.i in
    let held = c.loop-i-2.invariant in
    let said = c.split_sums.ensures in
    let few : i ≤ 2 ^ 16 = omega (arith, c.loop-i-2.auto, c.requires.few) in
    let past : length c.args.u.now ≤ i = omega (arith, c.loop-i-2-test.false) in
    let high : (k : ℕ) → get_or c.split_sums.result.odd_high k 0 ≡ get_or c.loop-i-2.odd_high k 0 = λ k. ap (λ xs. get_or xs k 0) said.odd_high in (
      λ k l. few_words i (get_or c.split_sums.result.odd_low k 0) (low_at c.loop-i-2.odd c.loop-i-2.odd_high k) few (said.odd_low k l) (held.3 k l),
      λ k l. few_words i (get_or c.split_sums.result.odd_high k 0) (get_or c.loop-i-2.odd_high k 0) few (high k) (held.1 k l),
      λ k l.
          summed_up (get_or c.split_sums.result.odd_low k 0) (get_or c.split_sums.result.odd_high k 0) (low_at c.loop-i-2.odd c.loop-i-2.odd_high k) (get_or c.loop-i-2.odd_high k 0) _ _
          (said.odd_low k l) (high k) (none-left (g.R.WordRow.word (c.args.lane + 2 * k + 1)) i c.args.u.now (drop i c.args.v.now) past) (held.5 k l),
    )

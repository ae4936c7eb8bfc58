use Rattle.std.proofs.Common.{◌≡◌, ◌<◌, ◌≤◌, ◌+◌, ◌-◌, ◌*◌, ◌^◌, ℕ, drop, get_or}
use Rattle.p3_kernels.specs.ProductSums.{AreWordSums, low_at}
use Rattle.p3_theory.specs.ResidueRings.SumsOfProducts.{sum_of_products}
use Rattle.p3_kernels.proofs.row_products.lane_sums.Given as goal

abbrev pub invariant-loop-i : goal.invariant-loop-i
invariant-loop-i g l =
    let word = g.R.WordRow.word in
    let h = g.row.H in
    AreWordSums h l.i l.even_high × AreWordSums h l.i l.odd_high
    × ((k : ℕ) → k < h → low_at l.even l.even_high k ≤ l.i * (2 ^ 32 - 1))
    × ((k : ℕ) → k < h → low_at l.odd l.odd_high k ≤ l.i * (2 ^ 32 - 1))
    × ((k : ℕ) → k < h → low_at l.even l.even_high k + 2 ^ 32 * get_or l.even_high k 0
    + sum_of_products (word (l.lane + 2 * k)) (drop (4 * l.i) l.u) (drop (4 * l.i) l.v)
    ≡ sum_of_products (word (l.lane + 2 * k)) l.u l.v)
    × ((k : ℕ) → k < h → low_at l.odd l.odd_high k + 2 ^ 32 * get_or l.odd_high k 0
    + sum_of_products (word (l.lane + 2 * k + 1)) (drop (4 * l.i) l.u) (drop (4 * l.i) l.v)
    ≡ sum_of_products (word (l.lane + 2 * k + 1)) l.u l.v)

abbrev pub invariant-loop-i-2 : goal.invariant-loop-i-2
invariant-loop-i-2 g l =
    let word = g.R.WordRow.word in
    let h = g.row.H in
    AreWordSums h l.i l.even_high × AreWordSums h l.i l.odd_high
    × ((k : ℕ) → k < h → low_at l.even l.even_high k ≤ l.i * (2 ^ 32 - 1))
    × ((k : ℕ) → k < h → low_at l.odd l.odd_high k ≤ l.i * (2 ^ 32 - 1))
    × ((k : ℕ) → k < h → low_at l.even l.even_high k + 2 ^ 32 * get_or l.even_high k 0
    + sum_of_products (word (l.lane + 2 * k)) (drop l.i l.u) (drop l.i l.v)
    ≡ sum_of_products (word (l.lane + 2 * k)) l.u l.v)
    × ((k : ℕ) → k < h → low_at l.odd l.odd_high k + 2 ^ 32 * get_or l.odd_high k 0
    + sum_of_products (word (l.lane + 2 * k + 1)) (drop l.i l.u) (drop l.i l.v)
    ≡ sum_of_products (word (l.lane + 2 * k + 1)) l.u l.v)

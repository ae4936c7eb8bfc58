use Rattle.std.proofs.Common.{◌≡◌, ◌<◌, ◌+◌, ◌*◌, ◌^◌, ℕ, List, arith, rules, get_or}
use Rattle.p3_kernels.proofs.RowProducts.{four_products, product_short}
use Rattle.p3_kernels.proofs.row_products.products_of_four_rows.Goals as goal

pub sums_of_four-requires : goal.sums_of_four-requires
sums_of_four-requires g c =
    let at : ℕ → ℕ = λ k. c.args.lane + 2 * k + g.row.ODD in
    let word = g.R.WordRow.word in
    let short : (x y : _) (numbers : List ℕ) → ((k : ℕ) → k < g.row.H → get_or numbers k 0 ≡ word (at k) x * word (at k) y) → (k : ℕ) → k < g.row.H → get_or numbers k 0 < 2 ^ 62 =
    λ x y numbers is k l.
    let within : at k < g.row.N = omega (arith, l, c.requires.inside, c.requires.odd) in
    let product = product_short (word (at k) x) (word (at k) y) (c.requires.short (at k) x within) (c.requires.short (at k) y within) in
    omega (arith, is k l, product) in (
      search rules,
      (
        short c.index-u-start.result c.index-v-start.result c.products_of_rows-first.result c.products_of_rows-first.ensures.value,
        (
          short c.index-u-start-2.result c.index-v-start-2.result c.products_of_rows-second.result c.products_of_rows-second.ensures.value,
          (
            short c.index-u-start-3.result c.index-v-start-3.result c.products_of_rows-third.result c.products_of_rows-third.ensures.value,
            short c.index-u-start-4.result c.index-v-start-4.result c.products_of_rows-fourth.result c.products_of_rows-fourth.ensures.value,
          ),
        ),
      ),
    )

pub returns-clause-value : goal.returns-clause-value
returns-clause-value g c k l =
    let word = g.R.WordRow.word (c.args.lane + 2 * k + g.row.ODD) in
    let all = four_products word c.args.u.now c.args.v.now c.requires.lengths c.args.start c.requires.room
    c.index-u-start.result c.index-u-start-2.result c.index-u-start-3.result c.index-u-start-4.result
    c.index-v-start.result c.index-v-start-2.result c.index-v-start-3.result c.index-v-start-4.result
    c.index-u-start.is c.index-u-start-2.is c.index-u-start-3.is c.index-u-start-4.is
    c.index-v-start.is c.index-v-start-2.is c.index-v-start-3.is c.index-v-start-4.is in
    omega (
      arith,
      all,
      c.sums_of_four.ensures.lanes k l,
      c.products_of_rows-first.ensures.value k l,
      c.products_of_rows-second.ensures.value k l,
      c.products_of_rows-third.ensures.value k l,
      c.products_of_rows-fourth.ensures.value k l,
    )

use Rattle.std.proofs.Common.{◌≡◌, arith, length, [], rules}
use Rattle.p3_kernels.proofs.SmallDotProducts.{four_fit, half_sums_most, joined_sums}
use Rattle.p3_kernels.proofs.small_dot_products.small_dot_products_8.Goals as goal

pub overflow_mul-greatest : goal.overflow_mul-greatest
overflow_mul-greatest c = record { fits = four_fit c.args.order c.greatest_product-greatest.result c.requires.fits c.greatest_product-greatest.ensures }

pub short_sums-sums-requires : goal.short_sums-sums-requires
short_sums-sums-requires c =
    let four_left : length c.args.left ≡ 4 = search rules in
    let four_right : length c.args.right ≡ 4 = search rules in (
      omega arith,
      (
        omega arith,
        (
          (let b = c.requires.left 0 [] (omega (arith, four_left)) 0 (omega arith) in omega (arith, b)),
          half_sums_most 8 c.args.order c.args.left c.args.right c.halves_of_rows_8-x.result c.halves_of_rows_8-y.result c.requires.fits c.requires.left c.requires.right
              c.halves_of_rows_8-x.ensures.even c.halves_of_rows_8-x.ensures.odd c.halves_of_rows_8-y.ensures.even c.halves_of_rows_8-y.ensures.odd
              c.greatest_product-greatest.result c.greatest_product-greatest.ensures four_left four_right,
        ),
      ),
    )

pub returns-clause-value : goal.returns-clause-value
returns-clause-value c =
    joined_sums 8 c.args.order c.args.left c.args.right c.halves_of_rows_8-x.result c.halves_of_rows_8-y.result c.requires.fits c.requires.left c.requires.right
    c.halves_of_rows_8-x.ensures.even c.halves_of_rows_8-x.ensures.odd c.halves_of_rows_8-y.ensures.even c.halves_of_rows_8-y.ensures.odd
    c.short_sums-sums.result c.join_halfwords_8.result c.short_sums-sums.ensures.value c.join_halfwords_8.ensures.words

use Rattle.std.proofs.Common.{arith}
use Rattle.p3_kernels.proofs.SmallProducts.{half_products_most, joined_products}
use Rattle.p3_kernels.proofs.small_products.small_products_4.Goals as goal

pub short_products-products-requires : goal.short_products-products-requires
short_products-products-requires c = (
  omega arith,
  (
    (let b = c.requires.left 0 (omega arith) in omega (arith, b)),
    half_products_most 4 c.args.order c.args.left c.args.right c.halfwords_of_4-x.result c.halfwords_of_4-y.result c.requires.fits c.requires.left c.requires.right
        c.halfwords_of_4-x.ensures.even c.halfwords_of_4-x.ensures.odd c.halfwords_of_4-y.ensures.even c.halfwords_of_4-y.ensures.odd
        c.greatest_product-most.result c.greatest_product-most.ensures,
  ),
)

pub returns-clause-value : goal.returns-clause-value
returns-clause-value c =
    joined_products 4 c.args.order c.args.left c.args.right c.halfwords_of_4-x.result c.halfwords_of_4-y.result c.requires.fits c.requires.left c.requires.right
    c.halfwords_of_4-x.ensures.even c.halfwords_of_4-x.ensures.odd c.halfwords_of_4-y.ensures.even c.halfwords_of_4-y.ensures.odd
    c.short_products-products.result c.join_halfwords_4.result c.short_products-products.ensures.value c.join_halfwords_4.ensures.words

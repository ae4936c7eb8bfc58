use Rattle.std.proofs.Common.{get_or, ◌≡◌, ◌+◌, ◌%◌, length, ◌∙◌, ap, rules}
use Rattle.p3_kernels.proofs.Rows.{dot-of_slices, four_products}
use Rattle.p3_kernels.proofs.small_dot_products.small_dot_product_at.Goals as goal

pub returns : goal.returns
returns c =
    let p = c.args.order in
    let i = c.args.i in
    let four_left : length c.args.left ≡ 4 = search rules in
    let four_right : length c.args.right ≡ 4 = search rules in
    ap (λ z. z % p) ((λ ι. c.small_word_product.ensures.value ι + c.small_word_product-2.ensures.value ι + (c.small_word_product-3.ensures.value ι + c.small_word_product-4.ensures.value ι))
    ∙ four_products (λ row. get_or row.now i 0) _ c.args.left c.args.right four_left four_right ∙ dot-of_slices c.args.left c.args.right i)

use Rattle.std.proofs.Common.{get_or, ◌≡◌, ◌+◌, ◌%◌, length, ◌∙◌, ap, rules}
use Rattle.p3_kernels.proofs.Rows.{dot-of_slices, four_products}
use Rattle.p3_kernels.proofs.dot_product_slices.dot_product_at.Goals as goal

pub returns-clause-value : goal.returns-clause-value
returns-clause-value c =
    let p = c.args.order in
    let i = c.args.i in
    let four_left : length c.args.left ≡ 4 = search rules in
    let four_right : length c.args.right ≡ 4 = search rules in
    c.montgomery_short_sum.ensures.value
    ∙ ap (λ z. z % p) ((λ ι. c.word_product.ensures.value ι + c.word_product-2.ensures.value ι + (c.word_product-3.ensures.value ι + c.word_product-4.ensures.value ι))
    ∙ four_products (λ row. get_or row.now i 0) _ c.args.left c.args.right four_left four_right ∙ dot-of_slices c.args.left c.args.right i)

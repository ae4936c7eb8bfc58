use Rattle.std.proofs.Common.{arith, rules, get_or, ◌≡◌, ◌<◌, ◌≤◌, ◌*◌, ◌%◌, ◌^◌, ◌∙◌, length, subst, sym}
use Rattle.p3_kernels.specs.Words.{RowsAreBelow, dot_at}
use Rattle.p3_theory.specs.ResidueRings.SumsOfProducts.{sum_of_products}
use Rattle.p3_packed_prime_fields.specs.Columns.{column}
use Rattle.p3_prime_fields.proofs.LaneValues.{number, rows_below, value_of_products}
use Rattle.p3_packed_prime_fields.proofs.PaddedRows.{of_padded}
use Rattle.p3_packed_prime_fields.proofs.lane_dot_products.montgomery_dot_products.Goals as goal

pub row_words-x-requires : goal.row_words-x-requires
row_words-x-requires g c = let short = (g.W.Form.montgomery c.requires.by_vectors).short in search (rules, short)

pub row_words-y-requires : goal.row_words-y-requires
row_words-y-requires g c = let short = (g.W.Form.montgomery c.requires.by_vectors).short in search (rules, short)

pub array_dot_products-sums-requires : goal.array_dot_products-sums-requires
array_dot_products-sums-requires g c =
    let w = g.W.Form in
    let order : c.ORDER.result ≡ w.ORDER = c.ORDER.ensures in
    let form = w.montgomery c.requires.by_vectors in
    let fits : c.ORDER.result < 2 ^ 31 = omega (arith, order, form.short) in
    let inverts : (c.ORDER.result * c.INVERSE.result) % 2 ^ 32 ≡ 1 = (λ ι. (order ι * c.INVERSE.ensures ι) % 2 ^ 32) ∙ form.inverts_order in
    let x = c.row_words-x.ensures in
    let y = c.row_words-y.ensures in
    let left : RowsAreBelow g.row.N c.ORDER.result c.row_words-x.result =
    subst (λ p. RowsAreBelow g.row.N p c.row_words-x.result) (sym order)
    (rows_below w g.row.N c.row_words-x.result c.args.left.now x.words (λ i k a b. x.zeros i k a (omega (arith, b, x.count)))) in
    let right : RowsAreBelow g.row.N c.ORDER.result c.row_words-y.result =
    subst (λ p. RowsAreBelow g.row.N p c.row_words-y.result) (sym order)
    (rows_below w g.row.N c.row_words-y.result c.args.right.now y.words (λ i k a b. y.zeros i k a (omega (arith, b, y.count)))) in
    search (rules, fits, inverts, left, right)

pub returns-clause-lanes : goal.returns-clause-lanes
returns-clause-lanes g c d k l =
    let w = g.W.Form in
    let order = c.ORDER.ensures in
    let r = c.values_of.ensures.words 0 d k l in
    let x = c.row_words-x.ensures in
    let y = c.row_words-y.ensures in
    let left = c.args.left.now in
    let right = c.args.right.now in
    let few : length left ≤ length c.row_words-x.result = omega (arith, c.requires.count, x.count) in
    let sums : dot_at c.row_words-x.result c.row_words-y.result k ≡ sum_of_products (number w) (column k d left) (column k d right) =
    of_padded k (number w) d left right c.row_words-x.result c.row_words-y.result c.requires.lengths few (x.count ∙ sym y.count)
    (λ i a. x.words d i k a l) (λ i a. y.words d i k a l) (λ i a b. x.zeros i k a (omega (arith, b, x.count)) l) in
    value_of_products w (2 ^ 32) (w.montgomery c.requires.by_vectors).undoes_scale (column k d left) (column k d right) (get_or c.values_of.result k d)
    ((λ ι. (r ι * 2 ^ 32) % sym order ι) ∙ c.array_dot_products-sums.ensures.value k l ∙ (λ ι. sums ι % order ι))

use Rattle.std.proofs.Common.{arith, rules, get_or, ◌≡◌, ◌≤◌, ◌%◌, ◌^◌, ◌∙◌, ap, length, subst, sym}
use Rattle.std.proofs.Math.Nat.{mod-mod, mul-one}
use Rattle.p3_kernels.specs.Words.{RowsAreBelow, dot_at}
use Rattle.p3_theory.specs.ResidueRings.SumsOfProducts.{sum_of_products}
use Rattle.p3_packed_prime_fields.specs.Columns.{column}
use Rattle.p3_prime_fields.proofs.LaneValues.{number, own_scale, rows_below, value_of_products}
use Rattle.p3_packed_prime_fields.proofs.PaddedRows.{of_padded}
use Rattle.p3_packed_prime_fields.proofs.lane_dot_products.small_dot_products.Goals as goal

pub array_small_dot_products-sums-requires : goal.array_small_dot_products-sums-requires
array_small_dot_products-sums-requires g c =
    let w = g.W.Form in
    let order : c.ORDER.result ≡ w.ORDER = c.ORDER.ensures in
    let fits : c.ORDER.result ≤ 2 ^ 7 = omega (arith, order, c.requires.small) in
    let x = c.row_words-x.ensures in
    let y = c.row_words-y.ensures in
    let left : RowsAreBelow g.row.N c.ORDER.result c.row_words-x.result =
    subst (λ p. RowsAreBelow g.row.N p c.row_words-x.result) (sym order)
    (rows_below w g.row.N c.row_words-x.result c.args.left.now x.words (λ i k a b. x.zeros i k a (omega (arith, b, x.count)))) in
    let right : RowsAreBelow g.row.N c.ORDER.result c.row_words-y.result =
    subst (λ p. RowsAreBelow g.row.N p c.row_words-y.result) (sym order)
    (rows_below w g.row.N c.row_words-y.result c.args.right.now y.words (λ i k a b. y.zeros i k a (omega (arith, b, y.count)))) in
    search (rules, fits, left, right)

pub returns-clause-lanes : goal.returns-clause-lanes
returns-clause-lanes g c d k l =
    let w = g.W.Form in
    let order = c.ORDER.ensures in
    let r = c.values_of.ensures.words 0 d k l in
    let x = c.row_words-x.ensures in
    let y = c.row_words-y.ensures in
    let left = c.args.left.now in
    let right = c.args.right.now in
    let few : length left ≤ length c.row_words-x.result = omega (arith, c.requires.count, x.count) in
    let sums : dot_at c.row_words-x.result c.row_words-y.result k ≡ sum_of_products (number w) (column k d left) (column k d right) =
    of_padded k (number w) d left right c.row_words-x.result c.row_words-y.result c.requires.lengths few (x.count ∙ sym y.count)
    (λ i a. x.words d i k a l) (λ i a. y.words d i k a l) (λ i a b. x.zeros i k a (omega (arith, b, x.count)) l) in
    let residue = c.array_small_dot_products-sums.ensures.value k l ∙ (λ ι. sums ι % order ι) in
    value_of_products w 1 (own_scale w c.requires.plain) (column k d left) (column k d right) (get_or c.values_of.result k d)
    (ap (λ n. n % w.ORDER) (mul-one _ ∙ r ∙ residue) ∙ mod-mod _ w.ORDER)

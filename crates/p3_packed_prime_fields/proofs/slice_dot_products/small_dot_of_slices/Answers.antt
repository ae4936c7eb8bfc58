use Rattle.std.proofs.Common.{◌≡◌, ◌<◌, ◌≤◌, ◌%◌, ◌^◌, ◌∙◌, ap, arith}
use Rattle.std.proofs.Math.Nat.{mod-mod, mul-one}
use Rattle.p3_theory.specs.ResidueRings.SumsOfProducts.{sum_of_products}
use Rattle.p3_prime_fields.proofs.LaneValues.{own_scale}
use Rattle.p3_prime_fields.specs.Elements.{of}
use Rattle.p3_packed_prime_fields.proofs.SliceDotProducts.{dot_of_sums, word, word_below}
use Rattle.p3_packed_prime_fields.proofs.slice_dot_products.small_dot_of_slices.Goals as goal

pub small_sums_of_rows-requires : goal.small_sums_of_rows-requires
small_sums_of_rows-requires g c =
    let w = g.W.Form in
    let order : c.ORDER-order.result ≡ w.ORDER = c.ORDER-order.ensures in
    let some : 0 < c.ORDER-order.result = omega (arith, order, w.is_form.above_one) in
    (omega (arith, c.requires.lanes), (some, (c.requires.lengths, (c.requires.few, λ k x l. omega (arith, word_below w k x, c.requires.small)))))

pub returns : goal.returns
returns g c =
    let w = g.W.Form in
    let order : c.ORDER-order.result ≡ w.ORDER = c.ORDER-order.ensures in
    let short : w.ORDER ≤ 2 ^ 32 = omega (arith, c.requires.small) in
    let left = c.args.left.now in
    let right = c.args.right.now in
    dot_of_sums w short 1 (own_scale w c.requires.plain) left right c.new.result c.values_of-values.result c.new.ensures
    (λ k l.
    let residue = c.in_ok-words.ensures.value k l ∙ (λ ι. sum_of_products (word w k) left right % order ι) in
    ap (λ n. n % w.ORDER) (mul-one _ ∙ c.values_of-values.ensures.words 0 (of w 0) k l ∙ residue) ∙ mod-mod _ w.ORDER)

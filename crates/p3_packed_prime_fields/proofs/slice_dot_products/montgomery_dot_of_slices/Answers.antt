use Rattle.std.proofs.Common.{◌≡◌, ◌≤◌, ◌*◌, ◌%◌, ◌^◌, ◌∙◌, arith, sym}
use Rattle.p3_theory.specs.ResidueRings.SumsOfProducts.{sum_of_products}
use Rattle.p3_prime_fields.specs.Elements.{of}
use Rattle.p3_packed_prime_fields.proofs.SliceDotProducts.{dot_of_sums, word}
use Rattle.p3_packed_prime_fields.proofs.slice_dot_products.montgomery_dot_of_slices.Goals as goal

pub returns : goal.returns
returns g c =
    let w = g.W.Form in
    let order : c.ORDER-order.result ≡ w.ORDER = c.ORDER-order.ensures in
    let form = w.montgomery c.requires.by_vectors in
    let short : w.ORDER ≤ 2 ^ 32 = omega (arith, form.short) in
    let left = c.args.left.now in
    let right = c.args.right.now in
    dot_of_sums w short (2 ^ 32) form.undoes_scale left right c.new.result c.values_of-values.result c.new.ensures
    (λ k l. (λ ι. (c.values_of-values.ensures.words 0 (of w 0) k l ι * 2 ^ 32) % sym order ι) ∙ c.in_ok-words.ensures.value k l
    ∙ (λ ι. sum_of_products (word w k) left right % order ι))

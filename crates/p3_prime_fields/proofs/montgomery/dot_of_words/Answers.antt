use Rattle.std.proofs.Common.{◌%◌, ◌^◌, ap, arith, ◌∙◌}
use Rattle.p3_residues.specs.Montgomery.{montgomery_canon, sum_reduced}
use Rattle.p3_prime_fields.proofs.montgomery.dot_of_words.Goals as goal

pub sum_products-products-requires-clause-left : goal.sum_products-products-requires-clause-left
sum_products-products-requires-clause-left g c = λ k d h. let below = c.requires.left k d h in omega (arith, below, g.M.MontgomeryModulus.fits)

pub sum_products-products-requires-clause-right : goal.sum_products-products-requires-clause-right
sum_products-products-requires-clause-right g c = λ k d h. let below = c.requires.right k d h in omega (arith, below, g.M.MontgomeryModulus.fits)

pub returns : goal.returns
returns g c =
    let m = g.M.MontgomeryModulus in
    ap (montgomery_canon m.ORDER (2 ^ 32) m.SCALE_INVERSE) c.with_word.ensures
    ∙ sum_reduced m.ORDER (2 ^ 32) m.SCALE_INVERSE m.undoes_scale (λ w. w) c.reduced_sum-word.result c.args.u.now c.args.v.now c.reduced_sum-word.ensures.below
    (c.reduced_sum-word.ensures.value ∙ ap (λ z. z % m.ORDER) c.sum_products-products.ensures)

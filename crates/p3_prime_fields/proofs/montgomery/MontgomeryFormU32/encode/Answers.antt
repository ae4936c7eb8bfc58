use Rattle.std.proofs.Common.{◌^◌, ◌∙◌}
use Rattle.p3_residues.specs.Montgomery.{square_below, word_reduced}
use Rattle.p3_prime_fields.proofs.montgomery.MontgomeryFormU32.encode.Goals as goal

pub reduced_product-requires : goal.reduced_product-requires
reduced_product-requires g c = square_below g.M.MontgomeryModulus.ORDER c.SQUARE.result (2 ^ 32) g.M.MontgomeryModulus.above_one (c.SQUARE.ensures ∙ g.M.MontgomeryModulus.is_square)

pub returns : goal.returns
returns g c =
    word_reduced g.M.MontgomeryModulus.ORDER (2 ^ 32) g.M.MontgomeryModulus.SCALE_INVERSE g.M.MontgomeryModulus.undoes_scale c.reduced_product.result c.args.residue c.SQUARE.result
    c.reduced_product.ensures.below (c.SQUARE.ensures ∙ g.M.MontgomeryModulus.is_square) c.reduced_product.ensures.value

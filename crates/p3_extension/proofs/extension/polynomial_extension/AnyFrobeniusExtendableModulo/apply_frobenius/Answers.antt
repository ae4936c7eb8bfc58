use Rattle.p3_extension.proofs.extension.polynomial_extension.AnyFrobeniusExtendableModulo.apply_frobenius.Goals as goal

pub image_by_table-requires-clause-degree : goal.image_by_table-requires-clause-degree
image_by_table-requires-clause-degree g c = g.met.S.IntegerPolynomial.monic.at_least_two

use Rattle.std.proofs.Common.{◌≡◌, ◌∙◌, ap, rules, get_or, map}
use Rattle.p3_theory.specs.Rings.Homomorphism.{length-map}
use Rattle.p3_vectorized.specs.RowMaps.{by_items, called_tabulate, column_answer}
use Rattle.p3_vectorized.proofs.vectorized_ext.packing_of_coefficients.Goals as goal

pub returns : goal.returns
returns g c =
    let z = g.P.PrimeCharacteristicRing.ops.zero in
    by_items z (map (λ v. get_or v.items c.args.i z) c.args.coefficients.now) g.PE.BasedVectorSpace.DIMENSION _
    (length-map (λ v. get_or v.items c.args.i z) c.args.coefficients.now ∙ c.requires.dimension)
    (called_tabulate _ _ _ g.PE.BasedVectorSpace.DIMENSION c.from_basis_coefficients_fn.ensures (λ p. (p.0.now ≡ c.args.coefficients.now) × (p.1.now ≡ c.args.i))
    (λ k. get_or (map (λ v. get_or v.items c.args.i z) c.args.coefficients.now) k z) (search rules) (λ p k y q kept h. (column_answer z p.0.now c.args.coefficients.now p.1.now c.args.i k y kept.0 kept.1 (λ e. h.met.1.0 e), (ap (λ r. r.now) h.met.1.1 ∙ kept.0, search (rules, h.met.0, h.met.1)))) z)

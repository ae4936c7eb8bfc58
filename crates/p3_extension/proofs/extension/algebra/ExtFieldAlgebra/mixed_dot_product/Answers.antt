use Rattle.std.proofs.Common.{ap, ◌∙◌}
use Rattle.p3_theory.specs.Rings.Ring.{ring_of}
use Rattle.p3_theory.specs.Polynomials.Polynomial.{embed}
use Rattle.p3_extension.specs.Values.{ext_ops, ext_laws, constant, same_value}
use Rattle.p3_extension.specs.Scalars.{is_scalar_product}
use Rattle.p3_extension.specs.EntryOperators.{sums_of_values}
use Rattle.p3_extension.proofs.extension.algebra.ExtFieldAlgebra.mixed_dot_product.Goals as goal

pub sum_of_products-requires-clause-sums : goal.sum_of_products-requires-clause-sums
sum_of_products-requires-clause-sums g c = λ _ _ _ _ _. g.met.F.PrimeCharacteristicRing.adds.callable _ _

pub sum_of_products-requires-clause-products : goal.sum_of_products-requires-clause-products
sum_of_products-requires-clause-products g c = λ _ _ _ _ _. g.met.F.PrimeCharacteristicRing.muls.callable _ _

pub returns : goal.returns
returns g c =
    let o = g.F.PrimeCharacteristicRing.ops in
    let laws = g.met.F.PrimeCharacteristicRing in
    let m = g.met.F.ExtensionAlgebra in
    let f = g.F.ExtensionAlgebra.modulus in
    c.sum_of_products.ensures (ext_ops o f) (ext_laws (ring_of laws.ring) g.row.D m.at_least_two f m.monic) (constant o)
    (sums_of_values o f g.F.Add.can_add g.F.Add.add_gives laws.adds)
    (record { callable = λ _ _ _ _ _. laws.muls.callable _ _; exact = λ x s r h. is_scalar_product (ring_of laws.ring) g.row.D m.at_least_two f g.F.Mul.mul_gives m.monic laws.muls.exact x r s h })
    (same_value c.constant-zero.result (constant o o.zero) (c.constant-zero.ensures ∙ ap (embed o g.row.D) c.zero.ensures))

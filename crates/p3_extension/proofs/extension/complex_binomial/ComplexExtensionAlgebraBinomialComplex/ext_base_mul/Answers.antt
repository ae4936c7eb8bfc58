use Rattle.std.proofs.Common.{arith, ◌∙◌}
use Rattle.p3_theory.specs.Rings.Ring.{ring_of}
use Rattle.p3_theory.specs.Polynomials.Polynomial.{binomial}
use Rattle.p3_theory.specs.Polynomials.BaseProduct.{base_product}
use Rattle.p3_theory.specs.FrobeniusMaps.BinomialFrobenius.{binomial_is_monic}
use Rattle.p3_extension.specs.Values.{same_value}
use Rattle.p3_extension.specs.ComplexValues.{complex_ops}
use Rattle.p3_extension.specs.ComplexTowers.{complex_laws}
use Rattle.p3_extension.proofs.extension.complex_binomial.ComplexExtensionAlgebraBinomialComplex.ext_base_mul.Goals as goal

pub returns : goal.returns
returns g c =
    let o = g.F.PrimeCharacteristicRing.ops in
    let h = g.met.F.HasComplexBinomialExtension.at_least_two in
    let w = g.F.HasComplexBinomialExtension.w in
    c.scale_each.ensures g.row.D (complex_ops o) c.requires.left (record { callable = λ _ _. tt; exact = λ x y r e. same_value r ((complex_ops o).mul x y) e })
    ∙ base_product (ring_of (complex_laws (ring_of g.met.F.PrimeCharacteristicRing.ring))) g.row.D (omega (arith, h)) (binomial (complex_ops o) g.row.D w)
    (binomial_is_monic (complex_ops o) g.row.D (omega (arith, h)) w) c.args.lhs.now c.args.rhs c.requires.left

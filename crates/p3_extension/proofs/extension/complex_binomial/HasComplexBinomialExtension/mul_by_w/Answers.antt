use Rattle.std.proofs.Common.{◌∙◌, ap}
use Rattle.p3_theory.specs.Polynomials.Polynomial.{quotient_mul, binomial}
use Rattle.p3_extension.specs.ComplexValues.{complex_ops}
use Rattle.p3_extension.specs.Values.{same_value}
use Rattle.p3_extension.proofs.extension.complex_binomial.HasComplexBinomialExtension.mul_by_w.Goals as goal

pub returns : goal.returns
returns g c =
    let o = g.Self.PrimeCharacteristicRing.ops in
    let z = c.args.z in
    same_value c.mul.result ((complex_ops o).mul g.Self.HasComplexBinomialExtension.w z)
    (c.mul.ensures ∙ ap (λ w. quotient_mul o 2 (binomial o 2 (o.neg o.one)) w.value z.value) c.w-w.ensures)

use Rattle.std.proofs.Common.{◌∙◌, ap, subst}
use Rattle.p3_theory.specs.FrobeniusMaps.FrobeniusTable.{TableProof}
use Rattle.p3_theory.specs.FrobeniusMaps.TableEntries.{power-entry}
use Rattle.p3_theory.specs.Polynomials.IntegerPolynomials.{over}
use Rattle.p3_theory.specs.ResidueRings.Residues.{residues}
use Rattle.p3_prime_fields.specs.Elements.{of, is}
use Rattle.p3_prime_fields.proofs.polynomial_constants.FpExtendableModulo.power_of_image.Goals as goal

pub returns : goal.returns
returns g c =
    let form = g.W.Form in
    let f = g.S.IntegerPolynomial.coefficients in
    let numbers = g.W.Modulus.PolynomialConstants in
    c.new.ensures.value ∙ ap (of form) c.power_of_image.ensures
    ∙ power-entry (is form) g.row.D f numbers.image numbers.powers numbers.dual
    (subst (λ n. TableProof (residues n) g.row.D (over (residues n) f) numbers.image numbers.powers numbers.dual) g.met.W.OverModulus.same_order g.met.W.Modulus.PolynomialConstants.table)
    c.args.i c.args.k c.requires.power

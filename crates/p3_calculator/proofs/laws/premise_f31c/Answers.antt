use Rattle.std.specs.Prelude.{[], ◌∷◌, refl}
use Rattle.p3_theory.specs.Roots.FiniteFields.{premise_by_image}
use Rattle.p3_theory.specs.Polynomials.Polynomial.{binomial}
use Rattle.p3_theory.specs.Inverses.QuadraticDomains.{residues_only_zero}
use Rattle.p3_theory.specs.ResidueRings.Residues.{are_residues, residue_laws}
use Rattle.p3_theory.specs.Rings.ZeroDivisors.{residues_have_no_zero_divisors}
use Rattle.p3_extension.specs.Domains.{quadratic_has_no_zero_divisors}
use Rattle.p3_prime_fields.specs.Elements.{is, ops}
use Rattle.p3_calculator.specs.Coefficients.{extension_represented}
use Rattle.p3_calculator.proofs.laws.premise_f31c.Goals as goal

pub returns-clause-premise : goal.returns-clause-premise
returns-clause-premise c =
    let represented = extension_represented 31 _ _ (are_residues (is _)) 2 (binomial (ops _) 2 ((ops _).neg (ops _).one)) [] in
    premise_by_image represented.keeps represented.same
    (quadratic_has_no_zero_divisors (residue_laws (is _)) ((ops _).neg (ops _).one) (residues_have_no_zero_divisors (is _) refl) (residues_only_zero (are_residues (is _)) ((ops _).neg (ops _).one) 30 refl refl))
    961 6 15 refl refl _ (18 ∷ 27 ∷ []) refl (λ _. refl)

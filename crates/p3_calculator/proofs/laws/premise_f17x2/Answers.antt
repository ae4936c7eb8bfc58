use Rattle.std.specs.Prelude.{[], ◌∷◌, refl}
use Rattle.p3_theory.specs.Roots.FiniteFields.{premise_by_image}
use Rattle.p3_theory.specs.Polynomials.Polynomial.{binomial}
use Rattle.p3_theory.specs.Inverses.QuadraticDomains.{residues_only_zero}
use Rattle.p3_theory.specs.ResidueRings.Residues.{are_residues, residue_laws}
use Rattle.p3_theory.specs.Rings.ZeroDivisors.{residues_have_no_zero_divisors}
use Rattle.p3_extension.specs.Domains.{quadratic_has_no_zero_divisors}
use Rattle.p3_prime_fields.specs.Elements.{is, of, ops}
use Rattle.p3_calculator.specs.Coefficients.{extension_represented}
use Rattle.p3_calculator.proofs.laws.premise_f17x2.Goals as goal

pub returns-clause-premise : goal.returns-clause-premise
returns-clause-premise c =
    let represented = extension_represented 17 _ _ (are_residues (is _)) 2 (binomial (ops _) 2 (of _ 3)) [] in
    premise_by_image represented.keeps represented.same
    (quadratic_has_no_zero_divisors (residue_laws (is _)) (of _ 3) (residues_have_no_zero_divisors (is _) refl) (residues_only_zero (are_residues (is _)) (of _ 3) 3 refl refl))
    289 5 9 refl refl _ (0 ∷ 6 ∷ []) refl (λ _. refl)

pub returns-clause-two_adic : goal.returns-clause-two_adic
returns-clause-two_adic c =
    let represented = extension_represented 17 _ _ (are_residues (is _)) 2 (binomial (ops _) 2 (of _ 3)) [] in
    premise_by_image represented.keeps represented.same
    (quadratic_has_no_zero_divisors (residue_laws (is _)) (of _ 3) (residues_have_no_zero_divisors (is _) refl) (residues_only_zero (are_residues (is _)) (of _ 3) 3 refl refl))
    289 5 9 refl refl _ (0 ∷ 1 ∷ []) refl (λ _. refl)

use Rattle.std.specs.Prelude.{ℕ, [], ◌∷◌, refl, get_or}
use Rattle.p3_theory.specs.Polynomials.Polynomial.{binomial, tabulate}
use Rattle.p3_theory.specs.Polynomials.Coefficients.{length-tabulate}
use Rattle.p3_theory.specs.ResidueRings.Residues.{are_residues}
use Rattle.p3_prime_fields.specs.Elements.{canon, of, ops, is}
use Rattle.p3_extension.specs.Values.{value_of}
use Rattle.p3_calculator.specs.Coefficients.{all_coefficients, extension_represented}
use Rattle.p3_calculator.proofs.PremiseLemmas.{meets_premise}
use Rattle.p3_calculator.proofs.laws.specification_f17x2_meets_the_premise.Goals as goal

pub returns : goal.returns
returns c =
    let represented = extension_represented 17 (ops _) (canon _) (are_residues (is _)) 2 (binomial (ops _) 2 (of _ 3)) (1 ∷ 2 ∷ []) in
    let chosen = λ (i : ℕ). of _ (get_or (1 ∷ 2 ∷ []) i 0) in
    meets_premise _ _ (all_coefficients (canon _)) represented (value_of (tabulate 2 chosen) (length-tabulate 2 chosen)) refl 5 9 c.premise_f17x2.ensures.premise

use Rattle.std.specs.Prelude.{refl}
use Rattle.p3_theory.specs.ResidueRings.Residues.{are_residues}
use Rattle.p3_prime_fields.specs.Elements.{canon, of, ops, is}
use Rattle.p3_calculator.specs.Coefficients.{one_coefficient, residues_represented}
use Rattle.p3_calculator.proofs.PremiseLemmas.{meets_premise}
use Rattle.p3_calculator.proofs.laws.specification_f2_meets_the_premise.Goals as goal

pub returns : goal.returns
returns c =
    meets_premise _ (ops _) (one_coefficient (canon _)) (residues_represented 2 (ops _) (canon _) (are_residues (is _)) 1) (of _ 1) refl 0 1 c.premise_f2.ensures.premise

use Rattle.std.specs.Prelude.{refl}
use Rattle.p3_theory.specs.ResidueRings.Residues.{are_residues}
use Rattle.p3_prime_fields.specs.Elements.{canon, of, ops, is}
use Rattle.p3_calculator.specs.Coefficients.{one_coefficient, residues_represented}
use Rattle.p3_calculator.proofs.PremiseLemmas.{meets_premise}
use Rattle.p3_calculator.proofs.laws.specification_f17_meets_the_premise.Goals as goal

pub returns : goal.returns
returns c =
    meets_premise _ (ops _) (one_coefficient (canon _)) (residues_represented 17 (ops _) (canon _) (are_residues (is _)) 3) (of _ 3) refl 4 1 c.premise_f17.ensures.premise

use Rattle.std.specs.Prelude.{refl}
use Rattle.std.proofs.Common.{arith}
use Rattle.p3_theory.specs.Roots.FiniteFields.{premise_by_image}
use Rattle.p3_theory.specs.ResidueRings.Residues.{are_residues, same_canon}
use Rattle.p3_theory.specs.Rings.ZeroDivisors.{residues_have_no_zero_divisors}
use Rattle.p3_prime_fields.specs.Elements.{is}
use Rattle.p3_calculator.proofs.laws.premise_f2.Goals as goal

pub returns-clause-premise : goal.returns-clause-premise
returns-clause-premise c =
    premise_by_image (are_residues (is _)).keeps (same_canon (is _)) (residues_have_no_zero_divisors (is _) refl) 2 0 1 refl refl _ 1 refl (λ pos. absurd (omega arith))

pub returns-clause-two_adic : goal.returns-clause-two_adic
returns-clause-two_adic c =
    premise_by_image (are_residues (is _)).keeps (same_canon (is _)) (residues_have_no_zero_divisors (is _) refl) 2 0 1 refl refl _ 1 refl (λ pos. absurd (omega arith))

use Rattle.p3_theory.specs.ResidueRings.Residues.{is_of}
use Rattle.p3_prime_fields.specs.Elements.{is}
use Rattle.p3_calculator.proofs.primes.FpCalculatorField.negation.Goals as goal

pub returns : goal.returns
returns g c = is_of (is g.W.Form) c.neg.result _ c.neg.ensures

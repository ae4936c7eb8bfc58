use Rattle.p3_theory.specs.ResidueRings.Residues.{is_difference}
use Rattle.p3_prime_fields.specs.Elements.{is}
use Rattle.p3_calculator.proofs.primes.FpCalculatorField.difference.Goals as goal

pub returns : goal.returns
returns g c = is_difference (is g.W.Form) c.args.self c.args.other c.sub.result c.sub.ensures

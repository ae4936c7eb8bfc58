use Rattle.p3_prime_fields.specs.Elements.{is}
use Rattle.p3_residues.specs.ResidueMultiples.{of_nat-canon}
use Rattle.p3_prime_fields.proofs.fp.FpPrimeCharacteristicRing.from_prime_subfield.Goals as goal

pub returns : goal.returns
returns g c = of_nat-canon (is g.W.Form) c.args.f

use Rattle.p3_field.specs.ResidueMultiples.{of_nat-canon}
use Rattle.example_mersenne31.specs.Elements.{is}
use Rattle.example_mersenne31.proofs.ring.Mersenne31PrimeCharacteristicRing.from_prime_subfield.Goals as goal

pub returns : goal.returns
returns c = of_nat-canon is c.args.f

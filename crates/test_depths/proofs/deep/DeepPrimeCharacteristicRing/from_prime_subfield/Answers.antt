use Rattle.std.proofs.Common.{◌∙◌}
use Rattle.test_depths.specs.Pairs.{pair-canon}
use Rattle.test_depths.proofs.deep.DeepPrimeCharacteristicRing.from_prime_subfield.Goals as goal

pub returns : goal.returns
returns g c = c.alike.ensures ∙ pair-canon g.P.Place c.args.f

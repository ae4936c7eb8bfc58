use Rattle.std.proofs.Common.{ap₂, ◌∙◌}
use Rattle.test_depths.specs.Pairs.{pair}
use Rattle.test_depths.proofs.deep.DeepPrimeCharacteristicRing.one.Goals as goal

pub returns : goal.returns
returns g c = c.alike.ensures ∙ ap₂ (pair g.P.Place) c.of.ensures c.of.ensures

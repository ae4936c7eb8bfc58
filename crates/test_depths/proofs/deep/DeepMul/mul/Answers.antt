use Rattle.std.proofs.Common.{ap₂, ◌∙◌}
use Rattle.test_depths.specs.Pairs.{pair}
use Rattle.test_depths.proofs.deep.DeepMul.mul.Goals as goal

pub returns : goal.returns
returns g c = c.joined.ensures ∙ ap₂ (pair g.P.Place) c.times-x.ensures c.times-y.ensures

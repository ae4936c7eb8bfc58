use Rattle.std.proofs.Common.{ap₂, ◌∙◌}
use Rattle.test_depths.specs.Pairs.{pair}
use Rattle.test_depths.proofs.deep.DeepAdd.add.Goals as goal

pub returns : goal.returns
returns g c = c.joined.ensures ∙ ap₂ (pair g.P.Place) c.plus-x.ensures c.plus-y.ensures

use Rattle.std.proofs.Common.{ap₂, ◌∙◌}
use Rattle.test_depths.specs.Pairs.{pair}
use Rattle.test_depths.proofs.deep.DeepNeg.neg.Goals as goal

pub returns : goal.returns
returns g c = c.joined.ensures ∙ ap₂ (pair g.P.Place) c.negated-x.ensures c.negated-y.ensures

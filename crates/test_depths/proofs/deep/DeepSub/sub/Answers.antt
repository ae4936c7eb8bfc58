use Rattle.std.proofs.Common.{ap, ◌∙◌}
use Rattle.test_depths.specs.Pairs.{pair_ops}
use Rattle.test_depths.proofs.deep.DeepSub.sub.Goals as goal

pub returns : goal.returns
returns g c = c.add.ensures ∙ ap ((pair_ops g.P.Place).add c.args.self) c.neg.ensures

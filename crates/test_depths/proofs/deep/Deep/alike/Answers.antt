use Rattle.std.specs.Prelude.{refl}
use Rattle.test_depths.specs.Pairs.{same_sides}
use Rattle.test_depths.proofs.deep.Deep.alike.Goals as goal

pub returns : goal.returns
returns g c = same_sides g.P.Place _ _ refl refl

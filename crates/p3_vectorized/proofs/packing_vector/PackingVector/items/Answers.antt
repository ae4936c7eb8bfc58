use Rattle.p3_theory.specs.Lanes.Rows.{opened}
use Rattle.p3_vectorized.proofs.packing_vector.PackingVector.items.Goals as goal

pub returns : goal.returns
returns g c = opened _ _ _ _ c.self.view_is c.self.invariant

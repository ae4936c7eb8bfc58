use Rattle.p3_theory.specs.Lanes.VectorLanes.{vector_keeps}
use Rattle.p3_field.proofs.run_laws.vector_lanes_keep_operations.Goals as goal

pub returns : goal.returns
returns g c = vector_keeps g.P.PrimeCharacteristicRing.ops g.F.PrimeCharacteristicRing.ops g.P.PackedValue.lanes g.P.PackedValue.WIDTH g.met.P.PackedRing.keeps

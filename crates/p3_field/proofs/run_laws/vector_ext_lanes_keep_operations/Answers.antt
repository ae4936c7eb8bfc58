use Rattle.p3_theory.specs.Lanes.VectorLanes.{vector_keeps}
use Rattle.p3_field.proofs.run_laws.vector_ext_lanes_keep_operations.Goals as goal

pub returns : goal.returns
returns g c =
    vector_keeps g.PE.PrimeCharacteristicRing.ops g.EF.PrimeCharacteristicRing.ops g.PE.ExtensionLanes.ext_lanes g.PE.ExtensionLanes.LANES g.met.PE.PackedExtensionRing.ext_keeps

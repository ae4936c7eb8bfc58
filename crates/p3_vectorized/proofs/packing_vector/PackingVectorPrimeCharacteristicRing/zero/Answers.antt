use Rattle.p3_theory.specs.Lanes.Rows.{rows}
use Rattle.p3_theory.specs.Lanes.RowRing.{filled}
use Rattle.p3_vectorized.proofs.packing_vector.PackingVectorPrimeCharacteristicRing.zero.Goals as goal

pub returns : goal.returns
returns g c = filled rows g.P.PrimeCharacteristicRing.ops c.new.result _ _ c.new.ensures c.zero-zero.ensures

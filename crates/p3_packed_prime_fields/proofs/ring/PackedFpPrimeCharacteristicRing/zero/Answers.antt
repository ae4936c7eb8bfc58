use Rattle.p3_theory.specs.Lanes.RowRing.{filled}
use Rattle.p3_prime_fields.specs.Elements.{ops}
use Rattle.p3_packed_prime_fields.specs.Values.{packed_rows}
use Rattle.p3_packed_prime_fields.proofs.ring.PackedFpPrimeCharacteristicRing.zero.Goals as goal

pub returns : goal.returns
returns g c = filled packed_rows (ops g.W.Form) c.new.result _ _ c.new.ensures c.zero-zero.ensures

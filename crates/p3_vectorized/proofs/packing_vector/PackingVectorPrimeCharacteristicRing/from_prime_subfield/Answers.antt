use Rattle.std.proofs.Common.{◌∙◌}
use Rattle.p3_theory.specs.Lanes.Rows.{rows}
use Rattle.p3_theory.specs.Lanes.RowRing.{filled, constant-of_nat}
use Rattle.p3_vectorized.proofs.packing_vector.PackingVectorPrimeCharacteristicRing.from_prime_subfield.Goals as goal

pub returns : goal.returns
returns g c = let o = g.P.PrimeCharacteristicRing.ops in filled rows o c.new.result _ _ c.new.ensures c.from_prime_subfield-value.ensures ∙ constant-of_nat rows o _

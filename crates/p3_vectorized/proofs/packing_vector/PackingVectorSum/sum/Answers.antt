use Rattle.p3_theory.specs.Rings.Accumulation.{sum_from_zero}
use Rattle.p3_theory.specs.Lanes.Rows.{rows}
use Rattle.p3_theory.specs.Lanes.RowRing.{row_laws, written_sum}
use Rattle.p3_vectorized.proofs.packing_vector.PackingVectorSum.sum.Goals as goal

pub returns : goal.returns
returns g c =
    let o = g.P.PrimeCharacteristicRing.ops in
    let ran = c.sum_from.ensures.ran in
    record {
      ran = (
        ran.0,
        λ _. ran.1,
        sum_from_zero (row_laws rows o g.met.P.PrimeCharacteristicRing.ring) _ (written_sum rows o) _ c.zero-start.ensures ran.0 c.sum_from.result ran.2,
      );
    }

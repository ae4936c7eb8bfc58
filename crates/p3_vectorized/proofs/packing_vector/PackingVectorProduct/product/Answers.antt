use Rattle.p3_theory.specs.Rings.Accumulation.{product_from_one}
use Rattle.p3_theory.specs.Lanes.Rows.{rows}
use Rattle.p3_theory.specs.Lanes.RowRing.{row_laws, written_product}
use Rattle.p3_vectorized.proofs.packing_vector.PackingVectorProduct.product.Goals as goal

pub returns : goal.returns
returns g c =
    let o = g.P.PrimeCharacteristicRing.ops in
    let ran = c.product_from.ensures.ran in
    record {
      ran = (
        ran.0,
        λ _. ran.1,
        product_from_one (row_laws rows o g.met.P.PrimeCharacteristicRing.ring) _ (written_product rows o) _ c.one-start.ensures ran.0 c.product_from.result ran.2,
      );
    }

use Rattle.p3_theory.specs.Lanes.Rows.{rows}
use Rattle.p3_theory.specs.Lanes.RowRing.{filled, row_ops, row_laws, written_sum}
use Rattle.p3_vectorized.specs.RowMaps.{mapped, written_row_product}
use Rattle.p3_vectorized.proofs.vectorized_ext.vectors.VectorizedExtAlgebraVectorized.mixed_dot_product.Goals as goal

pub returns : goal.returns
returns g c =
    let o = g.PE.PrimeCharacteristicRing.ops in
    let p = g.P.PrimeCharacteristicRing.ops in
    let e = g.PE.Algebra.embed in
    let m = g.met.PE.Algebra.mixed_muls in
    c.sum_of_products.ensures (row_ops rows o) (row_laws rows o g.met.PE.PrimeCharacteristicRing.ring) (mapped rows rows p o e)
    (record { callable = λ _ _. tt; exact = written_sum rows o })
    (record { callable = λ x y d k b h. m.callable _ _; exact = λ x y r h. written_row_product rows rows p o e _ m.exact x y r h })
    (filled rows o c.new.result _ _ c.new.ensures c.zero-zero.ensures)

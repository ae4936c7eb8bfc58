use Rattle.p3_theory.specs.Lanes.Rows.{rows}
use Rattle.p3_theory.specs.Lanes.RowRing.{constant, filled, row_ops, row_laws, written_sum, written_mixed_product}
use Rattle.p3_vectorized.proofs.packing_vector.algebra.PackingVectorAlgebra.mixed_dot_product.Goals as goal

pub returns : goal.returns
returns g c =
    let o = g.P.PrimeCharacteristicRing.ops in
    let e = g.P.Algebra.embed in
    let m = g.met.P.Algebra.mixed_muls in
    c.sum_of_products.ensures (row_ops rows o) (row_laws rows o g.met.P.PrimeCharacteristicRing.ring) (λ f. constant rows o (e f))
    (record { callable = λ _ _. tt; exact = written_sum rows o })
    (record {
      callable = λ x f d k h. m.callable _ _;
      exact = λ x f r h. written_mixed_product rows o x (e f) r (λ d k b. m.exact _ _ _ (h d k b));
    })
    (filled rows o c.new.result _ _ c.new.ensures c.zero-zero.ensures)

use Rattle.p3_theory.specs.Rings.Accumulation.{product_from_one}
use Rattle.p3_theory.specs.ResidueRings.Residues.{residue_laws}
use Rattle.p3_theory.specs.Lanes.RowRing.{row_laws}
use Rattle.p3_prime_fields.specs.Elements.{ops, is}
use Rattle.p3_packed_prime_fields.specs.Values.{packed_rows}
use Rattle.p3_packed_prime_fields.specs.PackedResidues.{product_of_lanes}
use Rattle.p3_packed_prime_fields.proofs.ring.PackedFpProduct.product.Goals as goal

pub returns : goal.returns
returns g c =
    let ran = c.product_from.ensures.ran in
    let laws = row_laws packed_rows (ops g.W.Form) (residue_laws (is g.W.Form)) in
    record {
      ran = (ran.0, λ _. ran.1, product_from_one laws _ (product_of_lanes g.W.Form) c.one-start.result c.one-start.ensures ran.0 c.product_from.result ran.2);
    }

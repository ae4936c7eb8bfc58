use Rattle.std.proofs.Common.{◌∙◌, ap}
use Rattle.p3_theory.specs.Rings.Accumulation.{product_from_one}
use Rattle.p3_theory.specs.ResidueRings.Residues.{residue_laws, is_of}
use Rattle.p3_theory.specs.Lanes.RowRing.{written_constant}
use Rattle.p3_prime_fields.specs.Elements.{ops, is}
use Rattle.p3_packed_prime_fields.specs.Values.{packed_rows}
use Rattle.p3_packed_prime_fields.specs.PackedResidues.{in_all_lanes}
use Rattle.p3_packed_prime_fields.proofs.ring.PackedFpProductFp.product.Goals as goal

pub returns : goal.returns
returns g c =
    let ran = c.product_from-product.ensures.ran in
    let laws = residue_laws (is g.W.Form) in
    record {
      ran = (
        ran.0,
        λ _. ran.1,
        written_constant packed_rows (ops g.W.Form) c.from.result c.product_from-product.result c.from.ensures
            ∙ ap (in_all_lanes g.W.Form) (product_from_one laws _ (λ x y r h. is_of (is g.W.Form) r _ h) c.one.result c.one.ensures ran.0 c.product_from-product.result ran.2),
      );
    }

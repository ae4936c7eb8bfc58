use Rattle.std.proofs.Common.{◌∙◌, ap}
use Rattle.p3_theory.specs.Rings.Accumulation.{sum_from_zero}
use Rattle.p3_theory.specs.ResidueRings.Residues.{residue_laws, is_of}
use Rattle.p3_theory.specs.Lanes.RowRing.{written_constant}
use Rattle.p3_prime_fields.specs.Elements.{ops, is}
use Rattle.p3_packed_prime_fields.specs.Values.{packed_rows}
use Rattle.p3_packed_prime_fields.specs.PackedResidues.{in_all_lanes}
use Rattle.p3_packed_prime_fields.proofs.ring.PackedFpSumFp.sum.Goals as goal

pub returns : goal.returns
returns g c =
    let ran = c.sum_from-total.ensures.ran in
    let laws = residue_laws (is g.W.Form) in
    record {
      ran = (
        ran.0,
        λ _. ran.1,
        written_constant packed_rows (ops g.W.Form) c.from.result c.sum_from-total.result c.from.ensures
            ∙ ap (in_all_lanes g.W.Form) (sum_from_zero laws _ (λ x y r h. is_of (is g.W.Form) r _ h) c.zero.result c.zero.ensures ran.0 c.sum_from-total.result ran.2),
      );
    }

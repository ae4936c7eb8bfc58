use Rattle.p3_theory.specs.Rings.Accumulation.{sum_from_zero}
use Rattle.p3_theory.specs.ResidueRings.Residues.{residue_laws}
use Rattle.p3_theory.specs.Lanes.RowRing.{row_laws}
use Rattle.p3_prime_fields.specs.Elements.{ops, is}
use Rattle.p3_packed_prime_fields.specs.Values.{packed_rows}
use Rattle.p3_packed_prime_fields.specs.PackedResidues.{sum_of_lanes}
use Rattle.p3_packed_prime_fields.proofs.ring.PackedFpSum.sum.Goals as goal

pub returns : goal.returns
returns g c =
    let ran = c.sum_from.ensures.ran in
    let laws = row_laws packed_rows (ops g.W.Form) (residue_laws (is g.W.Form)) in
    record {
      ran = (ran.0, λ _. ran.1, sum_from_zero laws _ (sum_of_lanes g.W.Form) c.zero-start.result c.zero-start.ensures ran.0 c.sum_from.result ran.2);
    }

use Rattle.std.proofs.Common.{◌∙◌}
use Rattle.p3_theory.specs.Lanes.RowRing.{filled, constant-of_nat}
use Rattle.p3_residues.specs.ResidueMultiples.{of_nat-canon}
use Rattle.p3_prime_fields.specs.Elements.{ops, is}
use Rattle.p3_packed_prime_fields.specs.Values.{packed_rows}
use Rattle.p3_packed_prime_fields.proofs.ring.PackedFpPrimeCharacteristicRing.from_prime_subfield.Goals as goal

pub returns : goal.returns
returns g c =
    filled packed_rows (ops g.W.Form) c.new.result _ _ c.new.ensures (of_nat-canon (is g.W.Form) c.args.f) ∙ constant-of_nat packed_rows (ops g.W.Form) _

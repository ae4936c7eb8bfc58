use Rattle.p3_field.specs.Accumulation.{sum_from_zero}
use Rattle.p3_field.specs.Residues.{is_of, residue_laws}
use Rattle.example_mersenne31.specs.Elements.{is}
use Rattle.example_mersenne31.proofs.ring.Mersenne31Sum.sum.Goals as goal

pub returns : goal.returns
returns g c =
    let (items, drains, accumulates) = c.sum_from.ensures.ran in
    record { ran = (items, λ _. drains, sum_from_zero (residue_laws is) _ (λ x y r h. is_of is r _ h) c.new.result c.new.ensures items c.sum_from.result accumulates) }

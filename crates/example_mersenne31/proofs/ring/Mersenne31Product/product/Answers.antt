use Rattle.p3_field.specs.Accumulation.{product_from_one}
use Rattle.p3_field.specs.Residues.{is_of, residue_laws}
use Rattle.example_mersenne31.specs.Elements.{is}
use Rattle.example_mersenne31.proofs.ring.Mersenne31Product.product.Goals as goal

pub returns : goal.returns
returns g c =
    let (items, drains, accumulates) = c.product_from.ensures.ran in
    record { ran = (items, λ _. drains, product_from_one (residue_laws is) _ (λ x y r h. is_of is r _ h) c.new.result c.new.ensures items c.product_from.result accumulates) }

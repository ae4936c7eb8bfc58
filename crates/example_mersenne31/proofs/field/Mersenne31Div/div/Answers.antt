use Rattle.p3_field.specs.ResidueInverses.{divided}
use Rattle.example_mersenne31.specs.Elements.{is}
use Rattle.example_mersenne31.proofs.field.Mersenne31Div.div.Goals as goal

pub returns : goal.returns
returns c = divided is c.args.self c.args.other c.unwrap.result c.mul.result (rw c.unwrap.ensures at c.find_inverse.ensures) c.mul.ensures

use Rattle.p3_field.specs.ResidueInverses.{inverse_of_modulo, modulo_of_inverse}
use Rattle.example_mersenne31.specs.Elements.{canon, is}
use Rattle.example_mersenne31.proofs.field.find_inverse.Goals as goal

pub returns-in-Some : goal.returns-in-Some
returns-in-Some c =
    let unit = c.in-Some.ensures.1 in
    inverse_of_modulo is c.args.value c.from_residue.result (cc (unit, c.from_residue.ensures))

pub returns-in-None : goal.returns-in-None
returns-in-None c = λ y h. c.in-None.ensures (canon y) (modulo_of_inverse is c.args.value y h)

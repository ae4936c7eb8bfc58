use Rattle.p3_prime_fields.specs.Elements.{canon, is}
use Rattle.p3_residues.specs.Inverses.{inverse_of_modulo, modulo_of_inverse}
use Rattle.p3_prime_fields.proofs.fp.Fp.find_inverse.Goals as goal

pub returns-in-Some : goal.returns-in-Some
returns-in-Some g c =
    let unit = c.in-Some.ensures.1 in
    inverse_of_modulo (is g.W.Form) c.args.self c.from_residue.result (cc (unit, c.residue.ensures, c.ORDER.ensures, c.from_residue.ensures))

pub returns-in-None : goal.returns-in-None
returns-in-None g c = λ y h.
    let unit = modulo_of_inverse (is g.W.Form) c.args.self y h in
    c.in-None.ensures (canon g.W.Form y) (cc (unit, c.residue.ensures, c.ORDER.ensures))

use Rattle.p3_prime_fields.specs.Elements.{is}
use Rattle.p3_residues.specs.Inverses.{divided}
use Rattle.p3_prime_fields.proofs.fp.FpDiv.div.Goals as goal

pub returns : goal.returns
returns g c = divided (is g.W.Form) c.args.self c.args.other c.unwrap.result c.mul.result (rw c.unwrap.ensures at c.find_inverse.ensures) c.mul.ensures

use Rattle.p3_residues.proofs.PowerQuotients.{squared}
use Rattle.p3_residues.proofs.odd_modulus.twice_as_many_digits.Goals as goal

pub returns : goal.returns
returns c = squared c.args.modulus c.args.inverse 18446744073709551616

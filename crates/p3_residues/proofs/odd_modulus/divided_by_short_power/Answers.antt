use Rattle.p3_residues.proofs.PowerQuotients.{quotient_by_power}
use Rattle.p3_residues.proofs.odd_modulus.divided_by_short_power.Goals as goal

pub returns-clause-value : goal.returns-clause-value
returns-clause-value c = quotient_by_power c.args.modulus c.args.inverse c.args.residue c.args.exponent c.requires.inverse c.requires.short

pub returns-then-modulus-le4294967295-clause-value : goal.returns-then-modulus-le4294967295-clause-value
returns-then-modulus-le4294967295-clause-value c = quotient_by_power c.args.modulus c.args.inverse c.args.residue c.args.exponent c.requires.inverse c.requires.short

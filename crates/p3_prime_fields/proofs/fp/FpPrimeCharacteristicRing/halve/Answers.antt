use Rattle.std.proofs.Common.{sym}
use Rattle.p3_theory.specs.ResidueRings.Residues.{is_of}
use Rattle.p3_prime_fields.specs.Elements.{is}
use Rattle.p3_residues.specs.Halves.{odd_order}
use Rattle.p3_prime_fields.proofs.fp.FpPrimeCharacteristicRing.halve.Goals as goal

pub half-requires-clause-odd : goal.half-requires-clause-odd
half-requires-clause-odd g c = odd_order (is g.W.Form) c.requires

pub returns : goal.returns
returns g c = sym (is_of (is g.W.Form) c.args.self.now _ (sym c.half.ensures.half))

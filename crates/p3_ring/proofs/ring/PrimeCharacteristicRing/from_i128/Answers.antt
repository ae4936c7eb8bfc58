use Rattle.std.proofs.Common.{rules}
use Rattle.p3_theory.specs.Rings.Multiples.{multiple_of_residue}
use Rattle.p3_ring.proofs.ring.PrimeCharacteristicRing.from_i128.Goals as goal

pub returns : goal.returns
returns g c =
    let m = g.met.Self.PrimeCharacteristicRing in
    let f = c.of_integer-residue.result in
    multiple_of_residue m.ring g.Self.PrimeSubfield.Quotient.order m.characteristic c.args.int _ (search rules)
    (g.Self.PrimeSubfield.Quotient.below f) _ c.from_prime_subfield.ensures

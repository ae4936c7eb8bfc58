use Rattle.std.specs.Prelude.{pos}
use Rattle.p3_theory.specs.Rings.Multiples.{multiple_of_residue}
use Rattle.p3_ring.proofs.ring.PrimeCharacteristicRing.from_u32.Goals as goal

pub returns : goal.returns
returns g c =
    let m = g.met.Self.PrimeCharacteristicRing in
    let f = c.of_integer-residue.result in
    multiple_of_residue m.ring g.Self.PrimeSubfield.Quotient.order m.characteristic (pos c.args.int) _ c.of_integer-residue.ensures
    (g.Self.PrimeSubfield.Quotient.below f) _ c.from_prime_subfield.ensures

use Rattle.p3_theory.specs.Rings.PowerChains.{first_power, product_of_powers}
use Rattle.p3_ring.proofs.ring.PrimeCharacteristicRing.cube.Goals as goal

pub returns : goal.returns
returns g c =
    let m = g.met.Self.PrimeCharacteristicRing in
    let first = first_power m.ring c.args.self.now in
    (product_of_powers m.ring (m.muls.exact _ _ _ c.mul.ensures) (product_of_powers m.ring c.square.ensures first first) first).is

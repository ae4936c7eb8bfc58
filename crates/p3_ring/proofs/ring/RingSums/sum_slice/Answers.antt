use Rattle.p3_ring.proofs.ring.RingSums.sum_slice.Goals as goal

pub returns : goal.returns
returns g c =
    let ring = g.met.Self.PrimeCharacteristicRing in
    c.sum_in_pairs.ensures g.Self.PrimeCharacteristicRing.ops ring.ring ring.adds c.zero.ensures

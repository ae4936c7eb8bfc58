use Rattle.p3_ring.proofs.ring.Algebra.mixed_dot_product.Goals as goal

pub returns : goal.returns
returns g c =
    let ring = g.met.Self.PrimeCharacteristicRing in
    c.sum_of_products.ensures g.Self.PrimeCharacteristicRing.ops ring.ring g.Self.Algebra.embed ring.adds g.met.Self.Algebra.mixed_muls c.zero.ensures

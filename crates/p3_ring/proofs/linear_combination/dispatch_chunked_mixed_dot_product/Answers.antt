use Rattle.p3_ring.proofs.linear_combination.dispatch_chunked_mixed_dot_product.Goals as goal

pub returns : goal.returns
returns g c =
    let ring = g.met.A.PrimeCharacteristicRing in
    c.dispatch_chunks.ensures g.A.PrimeCharacteristicRing.ops ring.ring g.A.Algebra.embed ring.adds g.met.A.Algebra.mixed_muls c.zero.ensures

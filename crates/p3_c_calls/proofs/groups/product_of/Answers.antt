use Rattle.p3_c_calls.proofs.groups.product_of.Goals as goal

pub returns : goal.returns
returns g c =
    let m = g.met.E.PrimeCharacteristicRing in
    (c.read_group-x.result, c.read_group-y.result, c.read_group-x.ensures, c.read_group-y.ensures, m.muls.exact _ _ _ c.mul.ensures)

use Rattle.std.proofs.Common.{◌∙◌, sym}
use Rattle.test_lanes.proofs.packing_quotients.lanes_have_inverses.Goals as goal

pub returns : goal.returns
returns g c t =
    (c.lane_inverses-inverses.result, sym (g.met.P.PrimeCharacteristicRing.muls.exact _ _ _ c.mul-product.ensures) ∙ c.lanes_are_one.ensures t)

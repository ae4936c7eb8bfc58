use Rattle.p3_theory.specs.Rings.PowerProducts.{power_of_two_more}
use Rattle.p3_ring.proofs.ring.PrimeCharacteristicRing.exp_power_of_2.Goals as goal

pub loop-preserved : goal.loop-preserved
loop-preserved g c =
    power_of_two_more g.met.Self.PrimeCharacteristicRing.ring c.args.self.now c.loop.power c.square-power.result c.loop.counter c.loop.invariant c.square-power.ensures

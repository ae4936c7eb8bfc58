use Rattle.p3_theory.specs.Lanes.Rows.{rows}
use Rattle.p3_vectorized.specs.Written.{written_shift}
use Rattle.p3_vectorized.proofs.packing_vector.PackingVectorPrimeCharacteristicRing.mul_2exp_u64.Goals as goal

pub returns : goal.returns
returns g c =
    written_shift rows g.P.PrimeCharacteristicRing.ops c.args.self.now c.new.result c.args.exponent _ c.loop-i.items c.loop-i.i c.loop-i-test.false
    c.new.ensures c.items-xs.ensures c.loop-i.invariant.1

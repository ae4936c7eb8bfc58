use Rattle.p3_vectorized.specs.Written.{written_square}
use Rattle.p3_theory.specs.Lanes.Rows.{rows}
use Rattle.p3_vectorized.proofs.packing_vector.PackingVectorPrimeCharacteristicRing.square.Goals as goal

pub returns : goal.returns
returns g c =
    written_square rows g.P.PrimeCharacteristicRing.ops c.args.self.now c.new.result _ c.loop-i.items c.loop-i.i c.loop-i-test.false
    c.new.ensures c.items-xs.ensures c.loop-i.invariant.1

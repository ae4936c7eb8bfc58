use Rattle.p3_theory.specs.Lanes.Rows.{rows}
use Rattle.p3_theory.specs.Lanes.RowRing.{two_at_item, written_halves}
use Rattle.p3_vectorized.proofs.packing_vector.PackingVectorPrimeCharacteristicRing.halve.Goals as goal

pub halve-requires : goal.halve-requires
halve-requires g c = two_at_item rows g.P.PrimeCharacteristicRing.ops c.requires _ c.loop-i-test.true

pub returns : goal.returns
returns g c =
    written_halves rows g.P.PrimeCharacteristicRing.ops c.args.self.now c.new.result _ c.loop-i.items c.loop-i.i c.loop-i-test.false
    c.new.ensures c.items-xs.ensures c.loop-i.invariant.1

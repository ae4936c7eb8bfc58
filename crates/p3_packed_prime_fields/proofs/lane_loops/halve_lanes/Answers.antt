use Rattle.std.specs.Prelude.{refl}
use Rattle.p3_theory.specs.Lanes.RowRing.{two_at_item, written_halves}
use Rattle.p3_packed_prime_fields.specs.Values.{packed_rows}
use Rattle.p3_packed_prime_fields.proofs.lane_loops.halve_lanes.Goals as goal

pub halve-requires : goal.halve-requires
halve-requires g c = two_at_item packed_rows g.F.PrimeCharacteristicRing.ops c.requires _ c.loop-i-test.true

pub returns : goal.returns
returns g c =
    let x = c.args.x.now in
    written_halves packed_rows g.F.PrimeCharacteristicRing.ops x c.new.result x.value c.loop-i.value c.loop-i.i c.loop-i-test.false c.new.ensures refl c.loop-i.invariant.1

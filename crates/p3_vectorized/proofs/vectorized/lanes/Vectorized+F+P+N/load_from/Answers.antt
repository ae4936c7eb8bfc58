use Rattle.std.proofs.Common.{sym, ◌∙◌}
use Rattle.p3_theory.specs.Lists.ByIndex.{read_at}
use Rattle.p3_vectorized.specs.VectorLists.{vector_lanes, length-lanes, value-loaded, values-loaded}
use Rattle.p3_vectorized.proofs.vectorized.lanes.Vectorized+F+P+N.load_from.Goals as goal

pub loop-lane-preserved : goal.loop-lane-preserved
loop-lane-preserved g c =
    let O = g.P.PrimeCharacteristicRing.ops in
    let Q = g.F.PrimeCharacteristicRing.ops in
    let lanes = g.P.PackedValue.lanes in
    let w = g.P.PackedValue.WIDTH in
    let s = c.args.slice.now in
    value-loaded Q s (vector_lanes O Q lanes w c.loop-lane.self) (vector_lanes O Q lanes w c.write_lane.new.self) c.loop-lane.lane c.index-slice-lane.result c.loop-lane-test.true
    (length-lanes O Q lanes w c.loop-lane.self ∙ sym c.requires.all) (sym (read_at s c.loop-lane.lane c.index-slice-lane.result Q.zero c.loop-lane-test.true c.index-slice-lane.is)) c.write_lane.ensures c.loop-lane.invariant

pub returns : goal.returns
returns g c =
    let O = g.P.PrimeCharacteristicRing.ops in
    let Q = g.F.PrimeCharacteristicRing.ops in
    let lanes = g.P.PackedValue.lanes in
    let w = g.P.PackedValue.WIDTH in
    values-loaded Q c.args.slice.now (vector_lanes O Q lanes w c.loop-lane.self) c.loop-lane.lane (length-lanes O Q lanes w c.loop-lane.self ∙ sym c.requires.all) c.loop-lane-test.false c.loop-lane.invariant

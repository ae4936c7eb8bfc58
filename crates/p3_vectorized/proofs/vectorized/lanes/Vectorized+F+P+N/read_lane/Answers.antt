use Rattle.std.specs.Prelude.{refl}
use Rattle.p3_theory.specs.Lanes.VectorLanes.{read_lane}
use Rattle.p3_vectorized.specs.VectorLists.{counted-lane, lane-read}
use Rattle.p3_vectorized.proofs.vectorized.lanes.Vectorized+F+P+N.read_lane.Goals as goal

pub returns : goal.returns
returns g c =
    let O = g.P.PrimeCharacteristicRing.ops in
    let Q = g.F.PrimeCharacteristicRing.ops in
    let lanes = g.P.PackedValue.lanes in
    let w = g.P.PackedValue.WIDTH in
    lane-read O Q lanes w c.args.self.now c.args.lane c.extract.result c.requires
    (read_lane O Q lanes w c.WIDTH-width.result c.args.lane c.args.self.now c.args.self.now.items c.part-part.result c.extract.result c.WIDTH-width.ensures (counted-lane w g.row.N c.args.lane c.requires) refl
    c.part-part.ensures c.extract.ensures)

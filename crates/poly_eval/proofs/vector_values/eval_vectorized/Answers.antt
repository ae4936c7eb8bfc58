use Rattle.std.proofs.Common.{◌∙◌, ap}
use Rattle.p3_field.specs.Rows.{rows}
use Rattle.p3_field.specs.RowRing.{constant}
use Rattle.p3_field.specs.VectorLanes.{vector_lane, vector_keeps}
use Rattle.poly_eval.proofs.VectorValues.{keeps_values, lane_of_constant}
use Rattle.poly_eval.proofs.vector_values.eval_vectorized.Goals as goal

pub returns : goal.returns
returns g c = λ i h.
    let O = g.P.PrimeCharacteristicRing.ops in
    let Q = g.F.PrimeCharacteristicRing.ops in
    let lanes = g.P.PackedValue.lanes in
    let w = g.P.PackedValue.WIDTH in
    ap (vector_lane O Q lanes w i) c.eval_point.ensures
    ∙ keeps_values {e = λ x. constant (rows {A = g.row.P.Denot} {n = g.row.N}) O (g.P.Algebra.embed x)} (vector_keeps O Q lanes w g.met.P.PackedRing.keeps i h)
    (λ x. lane_of_constant g.row.N O Q lanes w i (g.P.Algebra.embed x) x h (g.met.P.PackedRing.injects x)) c.args.coeffs.now c.args.points

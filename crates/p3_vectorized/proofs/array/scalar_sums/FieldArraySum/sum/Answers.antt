use Rattle.std.proofs.Common.{◌∙◌, ap}
use Rattle.p3_theory.specs.Rings.Accumulation.{sum_from_zero}
use Rattle.p3_theory.specs.Lanes.Rows.{rows}
use Rattle.p3_theory.specs.Lanes.RowRing.{constant, written_constant}
use Rattle.p3_vectorized.proofs.array.scalar_sums.FieldArraySum.sum.Goals as goal

pub returns : goal.returns
returns g c =
    let o = g.F.PrimeCharacteristicRing.ops in
    let m = g.met.F.PrimeCharacteristicRing in
    let ran = c.sum_from-total.ensures.ran in
    record {
      ran = (
        ran.0,
        λ _. ran.1,
        written_constant rows o c.new.result c.sum_from-total.result c.new.ensures
            ∙ ap (constant rows o) (sum_from_zero m.ring _ m.adds.exact c.zero.result c.zero.ensures ran.0 c.sum_from-total.result ran.2),
      );
    }

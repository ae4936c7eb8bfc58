use Rattle.std.proofs.Common.{◌∙◌, ap}
use Rattle.p3_theory.specs.Rings.Accumulation.{product_from_one}
use Rattle.p3_theory.specs.Lanes.Rows.{rows}
use Rattle.p3_theory.specs.Lanes.RowRing.{constant, written_constant}
use Rattle.p3_vectorized.proofs.array.scalar_sums.FieldArrayProduct.product.Goals as goal

pub returns : goal.returns
returns g c =
    let o = g.F.PrimeCharacteristicRing.ops in
    let m = g.met.F.PrimeCharacteristicRing in
    let ran = c.product_from-product.ensures.ran in
    record {
      ran = (
        ran.0,
        λ _. ran.1,
        written_constant rows o c.new.result c.product_from-product.result c.new.ensures
            ∙ ap (constant rows o) (product_from_one m.ring _ m.muls.exact c.one.result c.one.ensures ran.0 c.product_from-product.result ran.2),
      );
    }

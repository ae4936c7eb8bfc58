use Rattle.std.proofs.Common.{ap₂, ap, ◌∙◌}
use Rattle.p3_theory.specs.Rings.DotProduct.{dot}
use Rattle.p3_packed_prime_fields.specs.Columns.{column}
use Rattle.p3_packed_prime_fields.specs.Values.{packed_rows}
use Rattle.p3_packed_prime_fields.proofs.LaneDotProducts.{dot_by_columns}
use Rattle.p3_packed_prime_fields.proofs.dot_products.dot_at_once.Goals as goal

pub returns : goal.returns
returns g c =
    let o = g.F.PrimeCharacteristicRing.ops in
    dot_by_columns packed_rows o c.args.u.now c.args.v.now c.new.result _ c.new.ensures
    (λ k w. c.lane_dot_products-sums.ensures.lanes o.zero k w ∙ ap₂ (dot o) (ap (column k o.zero) c.rows_of-left.ensures) (ap (column k o.zero) c.rows_of-right.ensures))

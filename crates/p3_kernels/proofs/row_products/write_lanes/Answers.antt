use Rattle.p3_theory.specs.ResidueRings.SumsOfProducts.{sum_of_products}
use Rattle.p3_kernels.proofs.row_products.write_lanes.Goals as goal

pub returns-clause-value : goal.returns-clause-value
returns-clause-value g c before =
    c.write_sums.ensures.value (λ j. sum_of_products (g.R.WordRow.word j) c.args.u.now c.args.v.now) before c.lane_sums-sums.ensures.even.2 c.lane_sums-sums.ensures.odd.2

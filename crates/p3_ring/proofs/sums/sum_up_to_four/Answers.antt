use Rattle.p3_ring.proofs.SumParts.{sum_split}
use Rattle.p3_ring.proofs.sums.sum_up_to_four.Goals as goal

pub returns-then-input-le2 : goal.returns-then-input-le2
returns-then-input-le2 g c = c.sum_up_to_two.ensures

pub returns : goal.returns
returns g c o ring adds zero =
    sum_split ring c.args.input.now 2 c.sum_up_to_two-low.result c.sum_up_to_two-high.result c.add.result (c.sum_up_to_two-low.ensures o ring adds zero)
    (c.sum_up_to_two-high.ensures o ring adds zero) (adds.exact _ _ _ c.add.ensures)

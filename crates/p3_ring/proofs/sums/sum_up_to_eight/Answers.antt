use Rattle.p3_ring.proofs.SumParts.{sum_split}
use Rattle.p3_ring.proofs.sums.sum_up_to_eight.Goals as goal

pub returns-then-input-le4 : goal.returns-then-input-le4
returns-then-input-le4 g c = c.sum_up_to_four.ensures

pub returns : goal.returns
returns g c o ring adds zero =
    sum_split ring c.args.input.now 4 c.sum_up_to_four-low.result c.sum_up_to_four-high.result c.add.result (c.sum_up_to_four-low.ensures o ring adds zero)
    (c.sum_up_to_four-high.ensures o ring adds zero) (adds.exact _ _ _ c.add.ensures)

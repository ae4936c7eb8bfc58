use Rattle.std.proofs.Common.{◌≡◌, length, arith}
use Rattle.p3_ring.proofs.SumParts.{sum_of_none, sum_of_one, sum_of_two}
use Rattle.p3_ring.proofs.sums.sum_up_to_two.Goals as goal

pub returns-in-0 : goal.returns-in-0
returns-in-0 g c o ring adds zero = sum_of_none ring c.args.input.now c.args.zero c.in-0.is zero

pub returns-in-1 : goal.returns-in-1
returns-in-1 g c o ring adds zero = sum_of_one ring c.args.input.now c.index-input-0.result c.in-1.is c.index-input-0.is

pub returns-in_default : goal.returns-in_default
returns-in_default g c o ring adds zero =
    let both : length c.args.input.now ≡ 2 = omega arith in
    sum_of_two ring c.args.input.now c.index-input-0-in_default.result c.index-input-1.result c.add.result both c.index-input-0-in_default.is c.index-input-1.is (adds.exact _ _ _ c.add.ensures)

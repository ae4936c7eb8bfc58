use Rattle.std.proofs.Common.{arith, w32, ◌≡◌, ◌+◌, ◌∙◌}
use Rattle.std.specs.Simd.Lanes.{sum_l}
use Rattle.std.proofs.lemmas.Simd.{fold-sum, sum_fits}
use Rattle.p3_kernels.proofs.small_sums.sum_small_lanes.Goals as goal

pub overflow_add-result : goal.overflow_add-result
overflow_add-result c = sum_fits w32 0 c.args.sums (omega (arith, c.requires))

pub returns : goal.returns
returns c = let all : 0 + sum_l c.args.sums ≡ sum_l c.args.sums = omega arith in fold-sum 0 c.args.sums ∙ all

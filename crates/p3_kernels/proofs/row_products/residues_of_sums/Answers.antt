use Rattle.std.proofs.Common.{arith}
use Rattle.p3_kernels.proofs.row_products.residues_of_sums.Goals as goal

pub sums_of_rows-requires : goal.sums_of_rows-requires
sums_of_rows-requires g c = (omega (arith, c.requires.lanes), (c.requires.lengths, (c.requires.few, c.requires.short)))

pub offset_bounds-totals-k : goal.offset_bounds-totals-k
offset_bounds-totals-k g c = omega (arith, c.requires.lanes, c.loop-k-test.true)

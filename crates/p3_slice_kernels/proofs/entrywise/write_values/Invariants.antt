use Rattle.std.proofs.Common.{◌≡◌, length, take}
use Rattle.p3_slice_kernels.proofs.entrywise.write_values.Given as goal

abbrev pub invariant-loop-i : goal.invariant-loop-i
invariant-loop-i g l = (length l.out ≡ length l.fn.out) × (take l.i l.out ≡ take l.i l.values)

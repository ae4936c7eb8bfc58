use Rattle.std.proofs.Common.{◌≡◌, length, take}
use Rattle.p3_extension_formulas.proofs.vectors.write_entries.Given as goal

abbrev pub invariant-loop-i : goal.invariant-loop-i
invariant-loop-i g l = record {
  sized : length l.res ≡ length l.fn.entries;
  written : take l.i l.res ≡ take l.i l.fn.entries;
}

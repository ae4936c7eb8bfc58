use Rattle.std.proofs.Common.{◌≡◌, ◌++◌, map, take, drop}
use Rattle.p3_c_words.proofs.blocks.read.Given as goal

abbrev pub invariant-loop-i : goal.invariant-loop-i
invariant-loop-i g l = l.values ≡ map g.F.Stored.words.value (take l.i l.words) ++ drop l.i l.initial.values

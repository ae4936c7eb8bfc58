use Rattle.std.proofs.Common.{◌≡◌, ◌++◌, map, take, drop}
use Rattle.p3_c_words.proofs.blocks.write.Given as goal

abbrev pub invariant-loop-i : goal.invariant-loop-i
invariant-loop-i g l = l.words ≡ map g.F.Stored.words.word (take l.i l.values) ++ drop l.i l.initial.words

use Rattle.std.proofs.Common.{◌<◌, take}
use Rattle.std.specs.Prelude.{◌↔◌, All}
use Rattle.p3_c_words.proofs.stored.all_below.Given as goal

abbrev pub invariant-loop-i : goal.invariant-loop-i
invariant-loop-i l = l.greatest < l.order ↔ All (λ w. w < l.order) (take l.i l.items)

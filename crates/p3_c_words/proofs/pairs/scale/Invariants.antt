use Rattle.std.proofs.Common.{◌≡◌, ◌++◌, map, take, drop}
use Rattle.p3_c_words.proofs.pairs.scale.Given as goal

abbrev pub invariant-loop-i : goal.invariant-loop-i
invariant-loop-i g l =
    let w = g.F.Stored.words in
    let o = g.F.PrimeCharacteristicRing.ops in
    l.words ≡ map (λ x. w.word (o.mul (w.value x) l.by)) (take l.i l.initial.words) ++ drop l.i l.initial.words

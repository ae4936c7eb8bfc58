use Rattle.std.proofs.Common.{◌≡◌, length, map, take, drop}
use Rattle.p3_c_words.specs.Words.{AllStand}
use Rattle.p3_c_words.proofs.numbers.from_canonical.Given as goal

abbrev pub invariant-loop-i : goal.invariant-loop-i
invariant-loop-i g l =
    let w = g.F.Stored.words in
    record {
      long : length l.words ≡ length l.initial.words;
      stand : AllStand w (take l.i l.words);
      numbers : map (λ x. w.canon (w.value x)) (take l.i l.words) ≡ map w.number (take l.i l.initial.words);
      rest : drop l.i l.words ≡ drop l.i l.initial.words;
    }

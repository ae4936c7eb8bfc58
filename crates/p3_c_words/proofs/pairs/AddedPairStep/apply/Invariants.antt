use Rattle.std.proofs.Common.{◌≡◌, ◌++◌, length, take, drop}
use Rattle.p3_theory.specs.Lists.PairedLists.{zip_with}
use Rattle.p3_c_words.specs.Words.{AllStand, on_words}
use Rattle.p3_c_words.proofs.pairs.AddedPairStep.apply.Given as goal

abbrev pub invariant-loop-i : goal.invariant-loop-i
invariant-loop-i g l =
    let w = g.F.Stored.words in
    let sum = on_words w (λ x y. g.F.PrimeCharacteristicRing.ops.add x y) in
    record {
      long : length l.left ≡ length l.initial.left;
      stand : AllStand w (drop l.i l.left);
      written : take l.i l.left ++ zip_with sum (drop l.i l.left) (drop l.i l.right) ≡ zip_with sum l.initial.left l.right;
    }

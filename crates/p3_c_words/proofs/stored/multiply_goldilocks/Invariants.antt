use Rattle.std.proofs.Common.{◌≡◌, ◌++◌, length, take, drop}
use Rattle.p3_theory.specs.Lists.PairedLists.{zip_with}
use Rattle.p3_prime_fields.specs.Elements.{ops}
use Rattle.p3_prime_fields.specs.contracts.form.U64Word.TheImpl as word_impl
use Rattle.p3_prime_fields.specs.contracts.goldilocks.GoldilocksFormFormU64.TheImpl as impl
use Rattle.p3_c_words.specs.Fields.{stored_words}
use Rattle.p3_c_words.specs.Words.{AllStand, on_words}
use Rattle.p3_c_words.proofs.stored.multiply_goldilocks.Given as goal

abbrev pub invariant-loop-i : goal.invariant-loop-i
invariant-loop-i l =
    let words = stored_words {form = impl.ghosts} {bounds = word_impl.ghosts} in
    let product = on_words words (ops impl.ghosts).mul in
    record {
      long : length l.left ≡ length l.initial.left;
      stand : AllStand words (drop l.i l.left);
      written : take l.i l.left ++ zip_with product (drop l.i l.left) (drop l.i l.right) ≡ zip_with product l.initial.left l.right;
    }

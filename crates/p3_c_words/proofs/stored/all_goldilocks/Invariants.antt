use Rattle.std.proofs.Common.{take}
use Rattle.std.specs.Prelude.{◌↔◌, IsTrue}
use Rattle.p3_prime_fields.specs.contracts.goldilocks.GoldilocksFormFormU64.TheImpl as impl
use Rattle.p3_prime_fields.specs.contracts.form.U64Word.TheImpl as word_impl
use Rattle.p3_c_words.specs.Fields.{stored_words}
use Rattle.p3_c_words.specs.Words.{AllStand}
use Rattle.p3_c_words.proofs.stored.all_goldilocks.Given as goal

abbrev pub invariant-loop-i : goal.invariant-loop-i
invariant-loop-i l = IsTrue l.all ↔ AllStand (stored_words {form = impl.ghosts} {bounds = word_impl.ghosts}) (take l.i l.items)

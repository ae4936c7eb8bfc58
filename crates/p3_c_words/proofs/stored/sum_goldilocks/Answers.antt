use Rattle.p3_prime_fields.specs.contracts.form.U64Word.TheImpl as word_impl
use Rattle.p3_prime_fields.specs.contracts.goldilocks.GoldilocksFormFormU64.TheImpl as impl
use Rattle.p3_c_words.proofs.StoredSums.{is-sum}
use Rattle.p3_c_words.proofs.stored.sum_goldilocks.Goals as goal

pub returns : goal.returns
returns c = is-sum impl.ghosts word_impl.ghosts c.args.items.now c.sum_of_words.result c.requires.stand c.sum_of_words.ensures

use Rattle.p3_prime_fields.specs.contracts.form.U64Word.TheImpl as word_impl
use Rattle.p3_prime_fields.specs.contracts.goldilocks.GoldilocksFormFormU64.TheImpl as impl
use Rattle.p3_c_words.proofs.StoredSums.{is-dot}
use Rattle.p3_c_words.proofs.stored.dot_goldilocks.Goals as goal

pub returns : goal.returns
returns c = is-dot impl.ghosts word_impl.ghosts c.args.left.now c.args.right.now c.dot_of_words.result c.requires.left c.requires.right c.dot_of_words.ensures

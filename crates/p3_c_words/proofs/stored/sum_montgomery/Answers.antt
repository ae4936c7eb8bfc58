use Rattle.p3_prime_fields.specs.contracts.form.U32Word.TheImpl as word_impl
use Rattle.p3_prime_fields.specs.contracts.montgomery.MontgomeryFormU32.TheImpl as impl
use Rattle.p3_c_words.proofs.StoredSums.{is-sum}
use Rattle.p3_c_words.proofs.stored.sum_montgomery.Goals as goal

pub returns : goal.returns
returns g c = is-sum (impl.ghosts g.row.M g.M.MontgomeryModulus g.M.MontgomeryModulus-dict) word_impl.ghosts c.args.items.now c.sum_of_words.result c.requires.stand c.sum_of_words.ensures

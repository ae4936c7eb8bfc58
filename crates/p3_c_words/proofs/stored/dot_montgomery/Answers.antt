use Rattle.p3_prime_fields.specs.contracts.form.U32Word.TheImpl as word_impl
use Rattle.p3_prime_fields.specs.contracts.montgomery.MontgomeryFormU32.TheImpl as impl
use Rattle.p3_c_words.proofs.StoredSums.{is-dot}
use Rattle.p3_c_words.proofs.stored.dot_montgomery.Goals as goal

pub returns : goal.returns
returns g c = is-dot (impl.ghosts g.row.M g.M.MontgomeryModulus g.M.MontgomeryModulus-dict) word_impl.ghosts c.args.left.now c.args.right.now c.dot_of_words.result c.requires.left c.requires.right c.dot_of_words.ensures

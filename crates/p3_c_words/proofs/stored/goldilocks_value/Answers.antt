use Rattle.std.proofs.Common.{rules}
use Rattle.p3_prime_fields.specs.contracts.goldilocks.GoldilocksFormFormU64.TheImpl as impl
use Rattle.p3_c_words.specs.Fields.{with_word}
use Rattle.p3_c_words.proofs.stored.goldilocks_value.Goals as goal

pub returns-clause-value : goal.returns-clause-value
returns-clause-value c = with_word impl.ghosts c.from_canonical_unchecked.result c.args.word c.requires (search rules)

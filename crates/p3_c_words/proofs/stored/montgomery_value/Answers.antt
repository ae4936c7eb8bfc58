use Rattle.std.proofs.Common.{arith}
use Rattle.p3_c_words.specs.Fields.{with_word}
use Rattle.p3_c_words.proofs.stored.montgomery_value.Goals as goal

pub returns : goal.returns
returns g c =
    with_word _ _ c.args.word c.requires (c.values_of-values.ensures.words c.args.word c.index-values-0.result 0 (omega arith))

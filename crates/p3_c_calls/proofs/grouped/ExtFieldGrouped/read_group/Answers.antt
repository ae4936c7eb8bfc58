use Rattle.std.proofs.Common.{map, ap, ◌∙◌}
use Rattle.p3_c_words.proofs.InvertedWords.{words-again}
use Rattle.p3_c_calls.proofs.grouped.ExtFieldGrouped.read_group.Goals as goal

pub returns : goal.returns
returns g c =
    let w = g.F.Stored.words in
    ap (map w.word) (c.new.ensures ∙ c.read.ensures) ∙ words-again w c.args.words.now c.requires.stand

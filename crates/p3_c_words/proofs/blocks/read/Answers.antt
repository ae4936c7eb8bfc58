use Rattle.std.proofs.Common.{◌++◌, map, arith, ap₂, sym, ◌∙◌, append-nil}
use Rattle.std.proofs.lemmas.List.{take_all, drop_all}
use Rattle.p3_c_words.proofs.WrittenWords.{written-more}
use Rattle.p3_c_words.proofs.blocks.read.Goals as goal

pub loop-i-preserved : goal.loop-i-preserved
loop-i-preserved g c =
    written-more g.F.Stored.words.value c.args.words.now c.args.values.now c.loop-i.values c.loop-i.i c.index-words-i.result c.of_word.result c.loop-i-test.true
    (sym c.requires.lengths) c.loop-i.invariant c.index-words-i.is c.of_word.ensures

pub returns : goal.returns
returns g c =
    let n = c.loop-i.i in
    c.loop-i.invariant ∙ ap₂ (λ ws xs. map g.F.Stored.words.value ws ++ xs) (take_all n c.args.words.now (omega (arith, c.loop-i-test.false)))
    (drop_all n c.args.values.now (omega (arith, c.loop-i-test.false, c.requires.lengths))) ∙ append-nil _

use Rattle.std.proofs.Common.{◌++◌, map, arith, ap₂, sym, ◌∙◌, append-nil}
use Rattle.std.proofs.lemmas.List.{take_all, drop_all}
use Rattle.p3_c_words.proofs.WrittenWords.{written-more}
use Rattle.p3_c_words.proofs.blocks.write.Goals as goal

pub loop-i-preserved : goal.loop-i-preserved
loop-i-preserved g c =
    written-more g.F.Stored.words.word c.args.values.now c.args.words.now c.loop-i.words c.loop-i.i c.index-values-i.result c.to_word.result c.loop-i-test.true
    (sym c.requires) c.loop-i.invariant c.index-values-i.is c.to_word.ensures

pub returns : goal.returns
returns g c =
    let n = c.loop-i.i in
    c.loop-i.invariant ∙ ap₂ (λ xs ws. map g.F.Stored.words.word xs ++ ws) (take_all n c.args.values.now (omega (arith, c.loop-i-test.false)))
    (drop_all n c.args.words.now (omega (arith, c.loop-i-test.false, c.requires))) ∙ append-nil _

use Rattle.std.proofs.Common.{ap, ◌∙◌}
use Rattle.std.proofs.Math.ListN.{set}
use Rattle.std.proofs.lemmas.List.Edits.{map_over_more}
use Rattle.p3_c_words.proofs.pairs.scale.Goals as goal

pub loop-i-preserved : goal.loop-i-preserved
loop-i-preserved g c =
    let m = g.met.F.PrimeCharacteristicRing in
    let o = g.F.PrimeCharacteristicRing.ops in
    let w = g.F.Stored.words in
    let by = c.of_word-by.result in
    let x = c.index-words-i in
    ap (λ v. set c.loop-i.words c.loop-i.i v) (c.to_word.ensures ∙ ap w.word (m.muls.exact _ _ _ c.mul.ensures ∙ ap (λ v. o.mul v by) c.of_word.ensures))
    ∙ map_over_more (λ v. w.word (o.mul (w.value v) by)) c.args.words.now c.loop-i.words c.loop-i.i x.result c.loop-i-test.true c.loop-i.invariant x.is

use Rattle.std.proofs.Common.{◌<◌, length, arith, rules, ap, ap₂, ◌∙◌}
use Rattle.p3_c_words.specs.Words.{Stands}
use Rattle.p3_c_words.proofs.PairedWords.{paired-more, rest-holds}
use Rattle.p3_c_words.proofs.pairs.AddedScaledPairStep.apply.Goals as goal

pub loop-i-preserved : goal.loop-i-preserved
loop-i-preserved g c =
    let m = g.met.F.PrimeCharacteristicRing in
    let o = g.F.PrimeCharacteristicRing.ops in
    let w = g.F.Stored.words in
    let held = c.loop-i.invariant in
    let xs = c.loop-i.left in
    let ys = c.args.right.now in
    let i = c.loop-i.i in
    let x = c.index-left-i in
    let y = c.index-right-i in
    let inside : i < length xs = omega (arith, c.loop-i-test.true, c.loop-i.auto.left) in
    let beside : i < length ys = omega (arith, c.loop-i-test.true, c.requires.lengths) in
    record {
      long = search rules;
      stand = rest-holds (Stands w) xs i c.to_word.result held.stand;
      written = paired-more _ xs ys i x.result y.result c.to_word.result inside beside x.is y.is
          (c.to_word.ensures ∙ ap w.word (m.adds.exact _ _ _ c.add-sum.ensures ∙ ap₂ o.add c.of_word-x.ensures (m.muls.exact _ _ _ c.mul-product.ensures ∙ ap (λ z. o.mul z c.args.self.now.factor) c.of_word-y.ensures))) ∙ held.written;
    }

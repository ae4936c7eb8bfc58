use Rattle.std.proofs.Common.{refl, ap, ◌∙◌, rules}
use Rattle.p3_c_words.specs.Words.{Stands}
use Rattle.p3_c_words.proofs.WrittenWords.{related-more, stand-left}
use Rattle.p3_c_words.proofs.numbers.to_canonical.Goals as goal

pub of_word-requires : goal.of_word-requires
of_word-requires g c =
    let n = c.index-words-i in
    stand-left (Stands g.F.Stored.words) c.args.words.now c.loop-i.words c.loop-i.i n.result c.loop-i-test.true c.loop-i.invariant.rest n.is (c.if-not-all_stand.ensures.0 refl)

pub loop-i-preserved : goal.loop-i-preserved
loop-i-preserved g c =
    let w = g.F.Stored.words in
    let held = c.loop-i.invariant in
    let x = c.index-words-i in
    let more = related-more w.number (λ x. w.canon (w.value x)) c.args.words.now c.loop-i.words c.loop-i.i x.result c.to_number.result c.loop-i-test.true held.long
    held.numbers held.rest x.is (c.to_number.ensures ∙ ap w.canon c.of_word.ensures) in
    record { long = search (rules, held.long); numbers = more.0; rest = more.1 }

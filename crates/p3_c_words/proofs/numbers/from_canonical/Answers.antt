use Rattle.std.proofs.Common.{◌+◌, take, refl, arith, ap, subst, sym, ◌∙◌, rules}
use Rattle.std.proofs.lemmas.Grind.{take-set_at}
use Rattle.std.proofs.lemmas.List.Elements.{All-push}
use Rattle.p3_c_words.specs.Words.{Stands, AllStand}
use Rattle.p3_c_words.proofs.WrittenWords.{related-more, stand-left}
use Rattle.p3_c_words.proofs.numbers.from_canonical.Goals as goal

pub of_number-requires : goal.of_number-requires
of_number-requires g c =
    let n = c.index-words-i in
    stand-left (Stands g.F.Stored.words) c.args.words.now c.loop-i.words c.loop-i.i n.result c.loop-i-test.true c.loop-i.invariant.rest n.is (c.if-not-all_stand.ensures.0 refl)

pub loop-i-preserved : goal.loop-i-preserved
loop-i-preserved g c =
    let w = g.F.Stored.words in
    let held = c.loop-i.invariant in
    let n = c.index-words-i in
    let i = c.loop-i.i in
    let old = c.loop-i.words in
    let x = c.of_number.result in
    let v = c.to_word.result in
    let more = related-more (λ x. w.canon (w.value x)) w.number c.args.words.now old i n.result v c.loop-i-test.true held.long
    held.numbers held.rest n.is (ap (λ u. w.canon (w.value u)) c.to_word.ensures ∙ ap w.canon (w.value_word x) ∙ c.of_number.ensures) in
    record {
      long = search (rules, held.long);
      stand = subst (AllStand w) (sym (take-set_at old i (i + 1) v (omega arith) (omega (arith, c.loop-i-test.true, held.long))))
          (All-push (Stands w) (take i old) v held.stand (subst (Stands w) (sym c.to_word.ensures) (w.below x)));
      numbers = more.0;
      rest = more.1;
    }

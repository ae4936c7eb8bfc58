use Rattle.std.proofs.Common.{◌≡◌, ◌+◌, ◌-◌, ◌≤◌, [], ◌∷◌, ◌++◌, length, take, drop, refl, arith, ap, sym, ◌∙◌}
use Rattle.std.proofs.lemmas.List.{drop_all, take_all, take_more}
use borrow.Rule.Slice.PartMut.{put_mid}
use Rattle.p3_theory.specs.Bases.Coordinates.{flattened}
use Rattle.p3_c_calls.proofs.WordGroups.{at-most, written-group, words-left}
use Rattle.p3_c_words.proofs.InvertedWords.{length-put}
use Rattle.p3_c_calls.proofs.groups.write_values.Goals as goal

pub loop-i-init : goal.loop-i-init
loop-i-init g c =
    record {
      left = search (arith, c.requires);
      fits = λ h. omega (arith, c.requires, words-left g.E.Grouped.group g.row.D g.met.E.Grouped.widths c.args.values.now 0 h);
      written = refl;
    }

pub loop-i-preserved : goal.loop-i-preserved
loop-i-preserved g c =
    let group = g.E.Grouped.group in
    let n = g.row.D in
    let vs = c.args.values.now in
    let i = c.loop-i.i in
    let start = c.loop-i.start in
    let now = c.loop-i.words in
    let part = c.write_group.new.words in
    let x = c.index-values-i in
    let held = c.loop-i.invariant in
    let fits : start + n ≤ length now = held.fits c.loop-i-test.true in
    let k = start + n - start in
    let long : length part ≡ n = ap length c.write_group.ensures ∙ g.met.E.Grouped.widths x.result in
    let width : k ≡ n = omega arith in
    let new = put_mid start k now part in
    let same : length new ≡ length now = length-put now part start n k width fits long in
    let rest = length (flattened group (drop (i + 1) vs)) in
    let left : length now ≡ start + n + rest = omega (arith, held.left, words-left group n g.met.E.Grouped.widths vs i c.loop-i-test.true) in
    record {
      left = same ∙ left;
      fits = λ h. at-most (start + n + n) (length now) (length new) same (omega (arith, left, words-left group n g.met.E.Grouped.widths vs (i + 1) h));
      written = written-group group n (take i vs) x.result now part start k fits long c.write_group.ensures held.written ∙ ap (flattened group) (sym (take_more vs i x.result c.loop-i-test.true ∙ ap (λ z. take i vs ++ z ∷ []) (sym x.is)));
    }

pub returns : goal.returns
returns g c =
    let group = g.E.Grouped.group in
    let held = c.loop-i.invariant in
    let vs = c.args.values.now in
    let i = c.loop-i.i in
    let none : drop i vs ≡ [] = drop_all i vs (omega (arith, c.loop-i-test.false)) in
    let end : length c.loop-i.words ≡ c.loop-i.start + 0 = held.left ∙ ap (λ l. c.loop-i.start + length (flattened group l)) none in
    sym (take_all c.loop-i.start c.loop-i.words (omega (arith, end))) ∙ held.written ∙ ap (flattened group) (take_all i vs (omega (arith, c.loop-i-test.false)))

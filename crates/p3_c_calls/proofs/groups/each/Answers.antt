use Rattle.std.proofs.Common.{◌≡◌, ◌+◌, ◌-◌, ◌%◌, ◌<◌, ◌≤◌, [], ◌∷◌, ◌++◌, length, map, drop, refl, arith, ap, sym, ◌∙◌, append-nil}
use Rattle.std.proofs.lemmas.List.{drop-drop, drop_all, take_all, map-append}
use Rattle.std.proofs.lemmas.List.Elements.{All-same, All-drop}
use Rattle.std.proofs.lemmas.Slice.{drop-put_mid}
use borrow.Rule.Slice.PartMut.{put_mid}
use Rattle.p3_theory.specs.Bases.Coordinates.{flattened}
use Rattle.p3_c_calls.proofs.WordGroups.{group-fits, rest-whole, at-most, below, read-more, written-group}
use Rattle.p3_c_words.proofs.InvertedWords.{length-put}
use Rattle.p3_c_calls.proofs.groups.each.Goals as goal

pub loop-start-init : goal.loop-start-init
loop-start-init g c =
    let n = g.row.D in
    let len = length c.args.words.now in
    let none : len - 0 ≡ len = omega arith in
    let whole = ap (λ m. m % n) none ∙ c.requires.whole in
    record {
      inside = omega arith;
      long = refl;
      whole = whole;
      fits = λ h. group-fits n len 0 c.requires.some whole h;
      stand = c.requires.stand;
      done = ([], refl, refl);
    }

pub loop-start-preserved : goal.loop-start-preserved
loop-start-preserved g c =
    let n = g.row.D in
    let e = g.E.Grouped in
    let f = g.S.ValueStep.gives c.args.step.now in
    let now = c.loop-start.words in
    let part = c.change.new.words in
    let i = c.loop-start.start in
    let k = i + n - i in
    let held = c.loop-start.invariant in
    let inside : i < length now = c.loop-start-test.true in
    let fits : i + n ≤ length now = held.fits inside in
    let width : k ≡ n = omega arith in
    let x = c.change.ensures.0 in
    let xs = held.done.0 in
    let long : length part ≡ n = ap length c.change.ensures.2 ∙ g.met.E.Grouped.widths (f x) in
    let new = put_mid i k now part in
    let same : length new ≡ length now = length-put now part i n k width fits long in
    let whole = rest-whole n (length now) i c.requires.some held.whole inside in
    record {
      inside = at-most (i + n) (length now) (length new) same fits;
      long = same ∙ held.long;
      whole = ap (λ m. (m - (i + n)) % n) same ∙ whole;
      fits = λ h. at-most (i + n + n) (length now) (length new) same (group-fits n (length now) (i + n) c.requires.some whole (below (i + n) (length now) (length new) same h));
      stand = All-same e.stands _ _ (drop-put_mid i k now part (i + n) (omega arith) (omega (arith, fits)) (omega (arith, long)) ∙ sym (drop-drop n i now)) (All-drop e.stands n (drop i now) held.stand);
      done = (
        xs ++ x ∷ [],
        read-more e.group n xs x now part c.args.words.now i k width fits long c.change.ensures.1 held.done.1,
        written-group e.group n (map f xs) (f x) now part i k fits long c.change.ensures.2 held.done.2 ∙ ap (flattened e.group) (sym (map-append f xs (x ∷ []))),
      );
    }

pub returns : goal.returns
returns g c =
    let now = c.loop-start.words in
    let i = c.loop-start.start in
    let held = c.loop-start.invariant in
    let xs = held.done.0 in
    let end : length now ≤ i = omega (arith, c.loop-start-test.false) in (
      xs,
      sym (append-nil _) ∙ ap (λ l. flattened g.E.Grouped.group xs ++ l) (sym (drop_all i now end)) ∙ held.done.1,
      sym (take_all i now end) ∙ held.done.2,
    )

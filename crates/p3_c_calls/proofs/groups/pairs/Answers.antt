use Rattle.std.proofs.Common.{◌≡◌, ◌+◌, ◌-◌, ◌%◌, ◌<◌, ◌≤◌, [], ◌∷◌, ◌++◌, length, drop, refl, arith, ap, sym, ◌∙◌, append-nil, length-append}
use Rattle.std.proofs.lemmas.List.{drop-drop, drop_all, take_all}
use Rattle.std.proofs.lemmas.List.Elements.{All-same, All-drop}
use Rattle.std.proofs.lemmas.Slice.{drop-put_mid}
use borrow.Rule.Slice.PartMut.{put_mid}
use Rattle.p3_theory.specs.Bases.Coordinates.{flattened}
use Rattle.p3_theory.specs.Lists.PairedLists.{zip_with}
use Rattle.p3_c_calls.proofs.WordGroups.{group-fits, rest-whole, at-most, below, read-more, read-on, written-group, zip-more}
use Rattle.p3_c_words.proofs.InvertedWords.{length-put}
use Rattle.p3_c_calls.proofs.groups.pairs.Goals as goal

pub loop-start-init : goal.loop-start-init
loop-start-init g c =
    let len = length c.args.left.now in
    let none : len - 0 ≡ len = omega arith in
    let whole = ap (λ m. m % g.row.D) none ∙ c.requires.whole in
    record {
      inside = omega arith;
      long = refl;
      whole = whole;
      fits = λ h. group-fits g.row.D len 0 c.requires.some whole h;
      stand = c.requires.left;
      other = c.requires.right;
      done = ([], [], refl, refl, refl, refl);
    }

pub loop-start-preserved : goal.loop-start-preserved
loop-start-preserved g c =
    let n = g.row.D in
    let e = g.E.Grouped in
    let mul = g.E.PrimeCharacteristicRing.ops.mul in
    let now = c.loop-start.left in
    let other = c.args.right.now in
    let part = c.change_pair.new.left in
    let i = c.loop-start.start in
    let k = i + n - i in
    let held = c.loop-start.invariant in
    let inside : i < length now = c.loop-start-test.true in
    let fits : i + n ≤ length now = held.fits inside in
    let width : k ≡ n = omega arith in
    let made = c.change_pair.ensures in
    let x = made.0 in
    let y = made.1 in
    let xs = held.done.0 in
    let ys = held.done.1 in
    let alike = held.done.2 in
    let long : length part ≡ n = ap length made.4 ∙ g.met.E.Grouped.widths (mul x y) in
    let new = put_mid i k now part in
    let same : length new ≡ length now = length-put now part i n k width fits long in
    let whole = rest-whole n (length now) i c.requires.some held.whole inside in
    record {
      inside = at-most (i + n) (length now) (length new) same fits;
      long = same ∙ held.long;
      whole = ap (λ m. (m - (i + n)) % n) same ∙ whole;
      fits = λ h. at-most (i + n + n) (length now) (length new) same (group-fits n (length now) (i + n) c.requires.some whole (below (i + n) (length now) (length new) same h));
      stand = All-same e.stands _ _ (drop-put_mid i k now part (i + n) (omega arith) (omega (arith, fits)) (omega (arith, long)) ∙ sym (drop-drop n i now)) (All-drop e.stands n (drop i now) held.stand);
      other = All-same e.stands _ _ (sym (drop-drop n i other)) (All-drop e.stands n (drop i other) held.other);
      done = (
        xs ++ x ∷ [],
        ys ++ y ∷ [],
        omega (arith, length-append xs (x ∷ []), length-append ys (y ∷ []), alike),
        read-more e.group n xs x now part c.args.left.now i k width fits long made.2 held.done.3,
        read-on e.group n ys y other other i k width made.3 held.done.4,
        written-group e.group n (zip_with mul xs ys) (mul x y) now part i k fits long made.4 held.done.5 ∙ ap (flattened e.group) (sym (zip-more mul xs ys x y alike)),
      );
    }

pub returns : goal.returns
returns g c =
    let now = c.loop-start.left in
    let other = c.args.right.now in
    let i = c.loop-start.start in
    let held = c.loop-start.invariant in
    let xs = held.done.0 in
    let ys = held.done.1 in
    let group = g.E.Grouped.group in
    let end : length now ≤ i = omega (arith, c.loop-start-test.false) in
    let end-other : length other ≤ i = omega (arith, end, held.long, c.requires.lengths) in (
      xs,
      ys,
      held.done.2,
      sym (append-nil _) ∙ ap (λ l. flattened group xs ++ l) (sym (drop_all i now end)) ∙ held.done.3,
      sym (append-nil _) ∙ ap (λ l. flattened group ys ++ l) (sym (drop_all i other end-other)) ∙ held.done.4,
      sym (take_all i now end) ∙ held.done.5,
    )

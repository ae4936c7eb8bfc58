use Rattle.std.proofs.Common.{◌≡◌, ◌<◌, ◌-◌, ◌%◌, [], ◌∷◌, ◌++◌, length, take, drop, refl, ap, ap₂, sym, ◌∙◌, arith, length-drop, length-append, append-nil}
use Rattle.std.proofs.lemmas.Grind.{common_steps}
use Rattle.std.proofs.lemmas.List.{nil_from_length}
use Rattle.std.proofs.lemmas.List.Elements.{All-same, All-drop}
use Rattle.p3_theory.specs.Bases.Coordinates.{flattened}
use Rattle.p3_theory.specs.Bases.CoordinateLemmas.{flattened-push, divided_front}
use Rattle.p3_c_calls.proofs.WordGroups.{dot-more}
use Rattle.p3_c_calls.proofs.groups.dot_groups.Goals as goal

pub loop-a-init : goal.loop-a-init
loop-a-init g c =
    record {
      lengths = c.requires.lengths;
      whole = c.requires.whole;
      fits = λ h. (divided_front (length c.args.left.now) g.row.D c.requires.some c.requires.whole h).0;
      left = c.requires.left;
      right = c.requires.right;
      done = ([], [], refl, refl, refl, c.zero-total.ensures);
    }

pub loop-a-preserved : goal.loop-a-preserved
loop-a-preserved g c =
    let e = g.E.Grouped in
    let m = g.met.E.PrimeCharacteristicRing in
    let o = g.E.PrimeCharacteristicRing.ops in
    let n = g.row.D in
    let a = c.loop-a.a.now in
    let b = c.loop-a.b.now in
    let held = c.loop-a.invariant in
    let x = c.product_of.ensures.0 in
    let y = c.product_of.ensures.1 in
    let xs = held.done.0 in
    let ys = held.done.1 in
    let front-a : c.split_at.result.0.now ≡ take n a = c.split_at.ensures.front in
    let back-a : c.split_at.result.1.now ≡ drop n a = c.split_at.ensures.back in
    let front-b : c.split_at-in-loop-a.result.0.now ≡ take n b = c.split_at-in-loop-a.ensures.front in
    let back-b : c.split_at-in-loop-a.result.1.now ≡ drop n b = c.split_at-in-loop-a.ensures.back in
    let some : 0 < length a = grind (arith, common_steps) in
    let divided = divided_front (length a) n c.requires.some held.whole some in
    let next : length c.split_at.result.1.now % n ≡ 0 = ap (λ k. k % n) (ap length back-a ∙ length-drop n a) ∙ divided.1 in
    record {
      lengths = ap length back-a ∙ length-drop n a ∙ ap (λ k. k - n) held.lengths ∙ sym (ap length back-b ∙ length-drop n b);
      whole = next;
      fits = λ h. (divided_front (length c.split_at.result.1.now) n c.requires.some next h).0;
      left = All-same e.stands _ _ back-a (All-drop e.stands n a held.left);
      right = All-same e.stands _ _ back-b (All-drop e.stands n b held.right);
      done = (
        xs ++ x ∷ [],
        ys ++ y ∷ [],
        omega (arith, length-append xs (x ∷ []), length-append ys (y ∷ []), held.done.2),
        ap (λ l. flattened e.group (xs ++ x ∷ []) ++ l) back-a ∙ flattened-push e.group n xs x a c.args.left.now (c.product_of.ensures.2 ∙ front-a) held.done.3,
        ap (λ l. flattened e.group (ys ++ y ∷ []) ++ l) back-b ∙ flattened-push e.group n ys y b c.args.right.now (c.product_of.ensures.3 ∙ front-b) held.done.4,
        m.add_assigns.exact _ _ _ c.add_assign.ensures.after ∙ ap₂ o.add held.done.5 c.product_of.ensures.4 ∙ sym (dot-more m.ring xs ys x y held.done.2),
      );
    }

pub returns : goal.returns
returns g c =
    let group = g.E.Grouped.group in
    let held = c.loop-a.invariant in
    let xs = held.done.0 in
    let ys = held.done.1 in
    let end-a : length c.loop-a.a.now ≡ 0 = grind (arith, common_steps) in
    let none-a : c.loop-a.a.now ≡ [] = nil_from_length _ end-a in
    let none-b : c.loop-a.b.now ≡ [] = nil_from_length _ (sym held.lengths ∙ end-a) in (
      xs,
      ys,
      sym (append-nil _) ∙ ap (λ l. flattened group xs ++ l) (sym none-a) ∙ held.done.3,
      sym (append-nil _) ∙ ap (λ l. flattened group ys ++ l) (sym none-b) ∙ held.done.4,
      held.done.5,
    )

use Rattle.std.proofs.Common.{◌≡◌, ◌+◌, ◌-◌, ◌*◌, ◌<◌, ◌≤◌, ℕ, length, get_or, take, drop, arith, rules, ap, ap₂, sym, subst, ◌∙◌}
use Rattle.std.proofs.lemmas.List.{get_or-take, get_or-drop}
use Rattle.p3_theory.specs.Lists.PairedLists.{zip_with, length-zip, get-zip}
use Rattle.p3_theory.specs.Lists.ByIndex.{read_at, to-tabulate}
use Rattle.p3_theory.specs.Lists.TabulatedEntries.{UpdatedBelow, updated-more, updated-part}
use borrow.Rule.Slice.PartMut.{put_mid}
use Rattle.p3_slice_kernels.proofs.entrywise.take_entrywise.Goals as goal

pub loop-block-preserved : goal.loop-block-preserved
loop-block-preserved g c =
    let give = g.O.EntryOperation.gives in
    let d = g.O.EntryOperation.past_the_end in
    let first = c.args.left.now in
    let other = c.args.right.now in
    let given = λ (i : ℕ). give (get_or first i d) (get_or other i d) in
    let held = c.loop-block.invariant in
    let b = 16 * c.loop-block.block in
    let old = c.loop-block.left in
    let part = c.take_block.new.left in
    let onward : b + 16 ≡ 16 * (c.loop-block.block + 1) = omega arith in
    let fits : b + 16 ≤ length old = omega (arith, c.loop-block-test.true, held.long, c.blocks_of-blocks.ensures) in
    let sized : length part ≡ 16 = search (rules, fits) in
    record {
      long = search (rules, fits);
      taken = subst (UpdatedBelow given d first (put_mid b (b + 16 - b) old part)) onward
          (updated-part given d first old part b (b + 16 - b) (b + 16) (omega (arith, fits)) (omega (arith, sized)) (omega (arith, sized)) held.taken (λ k h.
          let inside : k < 16 = omega (arith, h, sized) in
          let first_inside : k < length (take (b + 16 - b) (drop b old)) = search (rules, inside, fits) in
          let alike : length (take (b + 16 - b) (drop b old)) ≡ length (take (b + 16 - b) (drop b other)) = search (rules, fits) in
          ap (λ l. get_or l k d) c.take_block.ensures
          ∙ get-zip give (take (b + 16 - b) (drop b old)) (take (b + 16 - b) (drop b other)) k d d d alike first_inside
          ∙ ap₂ give (get_or-take (b + 16 - b) (drop b old) k d (omega (arith, inside)) ∙ get_or-drop b old k d ∙ held.taken.1 (b + k) (omega arith))
          (get_or-take (b + 16 - b) (drop b other) k d (omega (arith, inside)) ∙ get_or-drop b other k d)));
    }

pub loop-i-preserved : goal.loop-i-preserved
loop-i-preserved g c =
    let give = g.O.EntryOperation.gives in
    let d = g.O.EntryOperation.past_the_end in
    let first = c.args.left.now in
    let other = c.args.right.now in
    let held = c.loop-i.invariant in
    let old = c.loop-i.left in
    let i = c.loop-i.i in
    let x = c.index-left-i in
    let y = c.index-right-i in
    let inside : i < length old = omega (arith, c.loop-i-test.true, c.loop-i.auto.left) in
    let beside : i < length other = omega (arith, inside, held.long, c.requires) in
    record {
      long = search (rules, held.long);
      taken = updated-more (λ j. give (get_or first j d) (get_or other j d)) d first old i c.of_values.result inside held.taken
          (c.of_values.ensures
          ∙ ap₂ give (sym (read_at old i x.result d inside x.is) ∙ held.taken.1 i (omega arith)) (sym (read_at other i y.result d beside y.is)));
    }

pub returns : goal.returns
returns g c =
    let give = g.O.EntryOperation.gives in
    let d = g.O.EntryOperation.past_the_end in
    let first = c.args.left.now in
    let other = c.args.right.now in
    let given = λ (j : ℕ). give (get_or first j d) (get_or other j d) in
    let held = c.loop-i.invariant in
    let n = length first in
    to-tabulate d n given c.loop-i.left held.long (λ k h. held.taken.0 k (omega (arith, h, c.loop-i-test.false, c.loop-block.invariant.long)))
    ∙ sym (to-tabulate d n given (zip_with give first other) (length-zip give first other c.requires) (λ k h. get-zip give first other k d d d c.requires h))

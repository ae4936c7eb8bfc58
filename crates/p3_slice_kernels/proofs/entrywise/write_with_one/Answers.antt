use Rattle.std.proofs.Common.{◌≡◌, ◌+◌, ◌-◌, ◌*◌, ◌<◌, ◌≤◌, length, get_or, map, take, drop, arith, rules, ap, sym, subst, ◌∙◌}
use Rattle.std.proofs.lemmas.List.{get_or-map, get_or-take, get_or-drop, length-map}
use Rattle.p3_theory.specs.Lists.ByIndex.{read_at, to-tabulate}
use Rattle.p3_theory.specs.Lists.TabulatedEntries.{HoldsBelow, holds-more, holds-part}
use borrow.Rule.Slice.PartMut.{put_mid}
use Rattle.p3_slice_kernels.proofs.entrywise.write_with_one.Goals as goal

pub loop-block-preserved : goal.loop-block-preserved
loop-block-preserved g c =
    let give = g.O.EntryOperation.gives in
    let other = c.args.other in
    let xs = c.args.values.now in
    let by = λ (x : g.row.F.Denot). give x other in
    let held = c.loop-block.invariant in
    let b = 16 * c.loop-block.block in
    let old = c.loop-block.out in
    let part = c.write_values.new.out in
    let values = take (b + 16 - b) (drop b xs) in
    let onward : b + 16 ≡ 16 * (c.loop-block.block + 1) = omega arith in
    let fits : b + 16 ≤ length old = omega (arith, c.loop-block-test.true, held.long, c.blocks_of-blocks.ensures, c.requires) in
    let sized : length part ≡ 16 = search (rules, fits, held.long, c.requires) in
    record {
      long = search (rules, fits, held.long);
      written = subst (HoldsBelow (λ k. give (get_or xs k other) other) other (put_mid b (b + 16 - b) old part)) onward
          (holds-part (λ k. give (get_or xs k other) other) other old part b (b + 16 - b) (b + 16) (omega (arith, fits)) (omega (arith, sized)) held.written (λ k h.
          let inside : k < 16 = omega (arith, h, sized) in
          let some : k < length values = search (rules, inside, fits, held.long, c.requires) in
          ap (λ l. get_or l k other) (c.write_values.ensures ∙ c.block_with_one-results.ensures)
          ∙ get_or-map by values k other other some
          ∙ ap by (get_or-take (b + 16 - b) (drop b xs) k other (omega (arith, inside)) ∙ get_or-drop b xs k other)));
    }

pub loop-i-preserved : goal.loop-i-preserved
loop-i-preserved g c =
    let give = g.O.EntryOperation.gives in
    let other = c.args.other in
    let xs = c.args.values.now in
    let held = c.loop-i.invariant in
    let i = c.loop-i.i in
    let x = c.index-values-i in
    let within : i < length xs = c.loop-i-test.true in
    let inside : i < length c.loop-i.out = omega (arith, within, held.long, c.requires) in
    let read : x.result ≡ get_or xs i other = sym (read_at xs i x.result other within x.is) in
    let given : c.of_values.result ≡ give (get_or xs i other) other = c.of_values.ensures ∙ ap (λ y. give y other) read in
    record {
      long = search (rules, held.long);
      written = holds-more (λ k. give (get_or xs k other) other) other c.loop-i.out i c.of_values.result inside held.written given;
    }

pub returns : goal.returns
returns g c =
    let give = g.O.EntryOperation.gives in
    let other = c.args.other in
    let xs = c.args.values.now in
    let by = λ (x : g.row.F.Denot). give x other in
    let held = c.loop-i.invariant in
    let n = length xs in
    to-tabulate other n (λ k. by (get_or xs k other)) c.loop-i.out (held.long ∙ sym c.requires) (λ k h. held.written k (omega (arith, h, c.loop-i-test.false)))
    ∙ sym (to-tabulate other n (λ k. by (get_or xs k other)) (map by xs) (length-map xs by) (λ k h. get_or-map by xs k other other h))

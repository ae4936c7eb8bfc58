use Rattle.std.proofs.Common.{◌≡◌, ◌<◌, ◌%◌, ◌++◌, length, take, drop, ap, ◌∙◌, arith, length-drop}
use Rattle.std.proofs.lemmas.Grind.{common_steps}
use Rattle.std.proofs.lemmas.List.Elements.{All-same, All-drop}
use Rattle.p3_theory.specs.Bases.Coordinates.{flattened}
use Rattle.p3_theory.specs.Bases.CoordinateLemmas.{flattened-push, divided_front}
use Rattle.p3_c_calls.proofs.groups.read_values.Goals as goal

pub loop-rest-init : goal.loop-rest-init
loop-rest-init g c =
    record {
      whole = c.requires.whole;
      fits = λ h. (divided_front (length c.args.words.now) g.row.D c.requires.some c.requires.whole h).0;
      stand = c.requires.stand;
      read = ap (λ l. flattened g.E.Grouped.group l ++ c.args.words.now) c.in_ok-values.ensures.items;
    }

pub loop-rest-preserved : goal.loop-rest-preserved
loop-rest-preserved g c =
    let e = g.E.Grouped in
    let n = g.row.D in
    let rest = c.loop-rest.rest.now in
    let front : c.split_at.result.0.now ≡ take n rest = c.split_at.ensures.front in
    let back : c.split_at.result.1.now ≡ drop n rest = c.split_at.ensures.back in
    let some : 0 < length rest = grind (arith, common_steps) in
    let divided = divided_front (length rest) n c.requires.some c.loop-rest.invariant.whole some in
    let next : length c.split_at.result.1.now % n ≡ 0 = ap (λ m. m % n) (ap length back ∙ length-drop n rest) ∙ divided.1 in
    record {
      whole = next;
      fits = λ h. (divided_front (length c.split_at.result.1.now) n c.requires.some next h).0;
      stand = All-same e.stands _ _ back (All-drop e.stands n rest c.loop-rest.invariant.stand);
      read = rw (c.in_ok-push.ensures.items, back) (flattened-push e.group n c.loop-rest.values.items c.read_group.result rest c.args.words.now (c.read_group.ensures ∙ front) c.loop-rest.invariant.read);
    }

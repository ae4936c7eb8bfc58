use Rattle.std.proofs.Common.{◌≡◌, ◌+◌, ◌∷◌, length, arith, ap, ◌∙◌, drop, length-drop}
use Rattle.std.proofs.lemmas.List.{drop_more}
use Rattle.std.proofs.lemmas.Option.{get_or_from_slice_get, slice_get_within}
use Rattle.p3_packing_traits.proofs.UntilEnd.{draws_item, fewer_left}
use Rattle.p3_packing_traits.proofs.ext_lane_items.ExtLaneItemsIterator.next.Goals as goal

pub returns-clause-steps : goal.returns-clause-steps
returns-clause-steps g c =
    let lanes = g.PE.ExtensionLanes.ext_lanes in
    let packed = c.in-Some-next.packed in
    let value = c.extract.result in
    let first : lanes packed ≡ value ∷ drop 1 (lanes packed) =
    drop_more (lanes packed) 0 value (slice_get_within (lanes packed) 0 value c.extract.ensures)
    ∙ ap (λ x. x ∷ drop 1 (lanes packed)) (get_or_from_slice_get (lanes packed) 0 value value c.extract.ensures) in
    draws_item g.I.Iterator.next_gives lanes c.args.self.now.source c.next.new.self _ packed value (drop 1 (lanes packed)) c.args.self.now.is_over
    c.if-self.false c.in_default.ensures.next c.in-Some-next.ensures.steps first

pub returns-clause-goes : goal.returns-clause-goes
returns-clause-goes g c =
    let packings = g.PE.ExtensionLanes in
    let lanes = packings.ext_lanes c.in-Some-next.packed in
    let source = c.in-Some-next.ensures.goes in
    let rest : length (drop 1 lanes) + 1 ≡ packings.LANES =
    omega (arith, length-drop 1 lanes, g.met.PE.ExtensionLanes.ext_lengths c.in-Some-next.packed, g.met.PE.ExtensionLanes.some_ext_lane) in
    record {
      on = λ f.
          let fewer = fewer_left c.args.self.now.is_over packings.LANES _ (length (drop 1 lanes)) (g.I.Iterator.remaining c.args.self.now.source)
          (g.I.Iterator.remaining c.next.new.self) c.if-self.false rest (λ e. let later = source.on e in (later.1, later.2)) f in
          (λ _. source.keeps, fewer.0, fewer.1);
      keeps = λ _. source.keeps;
      rests = λ _. tt;
    }

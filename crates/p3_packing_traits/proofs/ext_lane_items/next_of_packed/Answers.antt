use Rattle.std.proofs.Common.{◌+◌, ◌∷◌, arith, ap, sym, ◌∙◌, drop}
use Rattle.std.proofs.lemmas.List.{drop_all, drop_more}
use Rattle.std.proofs.lemmas.Option.{get_or_from_slice_get, slice_get_within}
use Rattle.p3_extension_traits.specs.Streams.{left_of}
use Rattle.p3_packing_traits.proofs.ext_lane_items.next_of_packed.Goals as goal

pub returns-then-lane-LANES-clause-next : goal.returns-then-lane-LANES-clause-next
returns-then-lane-LANES-clause-next g c =
    let packings = g.PE.ExtensionLanes in
    let packing = c.in-Some.packing in
    ap (λ packed. left_of packings.ext_lanes packed c.args.lane.now) c.in-Some.is
    ∙ drop_all c.args.lane.now (packings.ext_lanes packing) (omega (arith, g.met.PE.ExtensionLanes.ext_lengths packing, c.if-lane-LANES.true, c.LANES.ensures))

pub returns-clause-next : goal.returns-clause-next
returns-clause-next g c =
    let lanes = g.PE.ExtensionLanes.ext_lanes in
    let lane = c.args.lane.now in
    let values = lanes c.in-Some.packing in
    let value = c.extract-value.result in
    let inside = slice_get_within values lane value c.extract-value.ensures in
    ap (λ packed. left_of lanes packed lane) c.in-Some.is
    ∙ drop_more values lane value inside
    ∙ ap (λ x. x ∷ drop (lane + 1) values) (get_or_from_slice_get values lane value value c.extract-value.ensures)
    ∙ sym (ap (λ packed. value ∷ left_of lanes packed (lane + 1)) c.in-Some.is)

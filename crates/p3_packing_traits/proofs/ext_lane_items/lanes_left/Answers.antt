use Rattle.std.proofs.Common.{◌≡◌, ap, sym, length, arith, drop, ◌∙◌, length-drop}
use Rattle.p3_extension_traits.specs.Streams.{left_of}
use Rattle.p3_packing_traits.proofs.ext_lane_items.lanes_left.Goals as goal

pub returns-in-Some : goal.returns-in-Some
returns-in-Some g c =
    let packings = g.PE.ExtensionLanes in
    let lane = c.args.lane in
    let values = packings.ext_lanes c.in-Some.field-0 in
    let left : length (drop lane values) ≡ c.saturating_sub.result =
    omega (arith, length-drop lane values, g.met.PE.ExtensionLanes.ext_lengths c.in-Some.field-0, c.saturating_sub.ensures, c.LANES.ensures) in
    sym (ap (λ packed. length (left_of packings.ext_lanes packed lane)) c.in-Some.is ∙ left)

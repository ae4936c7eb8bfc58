use Rattle.std.proofs.Common.{◌≤◌, ◌*◌, arith, ap}
use Rattle.std.specs.Iterator.{size}
use Rattle.std.proofs.lemmas.Nat.{mul-le}
use Rattle.p3_packing_traits.proofs.UntilEnd.{within_on}
use Rattle.p3_packing_traits.proofs.ext_lane_items.ExtLaneItemsIterator.size_hint.Goals as goal

pub returns-clause-lower : goal.returns-clause-lower
returns-clause-lower g c =
    let width = g.PE.ExtensionLanes.LANES in
    let packings = c.size_hint.result.0 in
    within_on c.args.self.now.is_over c.bytes_hint.result.0 _ c.if-self.false
    (λ ends.
    let later : width * packings ≤ width * size (g.I.Iterator.remaining c.args.self.now.source) = mul-le width packings width _ (omega arith) (c.size_hint.ensures.lower ends) in
    omega (arith, c.bytes_hint.ensures.lower, c.lanes_left-left.ensures, ap (λ m. m * packings) c.LANES.ensures, later))

use Rattle.std.proofs.Common.{refl}
use Rattle.p3_extension_traits.specs.Streams.{left_of}
use Rattle.p3_packing_traits.proofs.UntilEnd.{all_values, drawn_values, ends_for_good}
use Rattle.p3_packing_traits.proofs.ext_lane_items.to_ext_iter.Goals as goal

pub returns-clause-all : goal.returns-clause-all
returns-clause-all g c = λ xs y.
    let lanes = g.PE.ExtensionLanes.ext_lanes in
    all_values g.I.Iterator.next_gives lanes g.I.Iterator.can_next (λ s. s.is_over) (λ s. s.source) (λ s. left_of lanes s.packed s.lane) xs _ refl y

pub returns-clause-drawn : goal.returns-clause-drawn
returns-clause-drawn g c = record {
  runs = λ values d.
      let lanes = g.PE.ExtensionLanes.ext_lanes in
      drawn_values g.I.Iterator.next_gives lanes g.I.Iterator.can_next (λ s. s.is_over) (λ s. s.source) (λ s. left_of lanes s.packed s.lane) values _ refl d;
}

pub returns-clause-ended : goal.returns-clause-ended
returns-clause-ended g c =
    let lanes = g.PE.ExtensionLanes.ext_lanes in
    ends_for_good g.I.Iterator.next_gives lanes g.I.Iterator.can_next (λ s. s.is_over) (λ s. s.source) (λ s. left_of lanes s.packed s.lane) _

use Rattle.std.proofs.Common.{◌+◌, ◌*◌}
use Rattle.p3_theory.specs.Lists.TabulatedEntries.{HoldsBelow}
use Rattle.p3_packing_traits.specs.Transposition.{value_at, transposed_entry}
use Rattle.p3_packing_traits.proofs.extension_lanes.ExtensionLanes.unpack_transpose_into.Given as goal

abbrev pub invariant-loop-c : goal.invariant-loop-c
invariant-loop-c g l =
    let o = g.EF.PrimeCharacteristicRing.ops in
    let value = value_at g.Self.Inhabited.inhabitant o g.Self.ExtensionLanes.ext_lanes g.Self.ExtensionLanes.LANES l.src in
    HoldsBelow (transposed_entry value l.src_width l.height) o.zero l.dst (l.c * l.height)

abbrev pub invariant-loop-r : goal.invariant-loop-r
invariant-loop-r g l =
    let o = g.EF.PrimeCharacteristicRing.ops in
    let value = value_at g.Self.Inhabited.inhabitant o g.Self.ExtensionLanes.ext_lanes g.Self.ExtensionLanes.LANES l.src in
    HoldsBelow (transposed_entry value l.src_width l.height) o.zero l.dst (l.c * l.height + l.r)

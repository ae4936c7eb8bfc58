use Rattle.std.proofs.Common.{◌∙◌, ap}
use Rattle.std.specs.Prelude.{replicate}
use Rattle.p3_packing_traits.proofs.ext_powers.packed_ext_powers.Goals as goal

pub returns-clause-multiplier : goal.returns-clause-multiplier
returns-clause-multiplier g c = c.ext_broadcast.ensures ∙ ap (replicate g.PE.ExtensionLanes.LANES) c.powers_by_lanes-current.ensures.next

use Rattle.std.proofs.Common.{length, get_or, ap, ◌∙◌, arith}
use Rattle.std.specs.Int.{div_ceil}
use Rattle.p3_theory.specs.Lanes.Lanes.{lane}
use Rattle.p3_theory.specs.Lists.ByIndex.{get-tabulate}
use Rattle.p3_theory.specs.Polynomials.Coefficients.{length-tabulate}
use Rattle.p3_packing_traits.proofs.ext_powers.packed_ext_powers_capped.Goals as goal

pub returns-clause-count : goal.returns-clause-count
returns-clause-count g c = ap length c.take.ensures ∙ length-tabulate c.div_ceil.result _ ∙ c.div_ceil.ensures ∙ ap (div_ceil c.args.unpacked_len) c.LANES.ensures

pub returns-clause-powers : goal.returns-clause-powers
returns-clause-powers g c k l inside below =
    let o = g.EF.PrimeCharacteristicRing.ops in
    let r = g.met.EF.PrimeCharacteristicRing.ring in
    let z = g.PE.PrimeCharacteristicRing.ops.zero in
    let at = lane o g.PE.ExtensionLanes.ext_lanes l in
    let whole = ap length c.take.ensures ∙ length-tabulate c.div_ceil.result _ in
    ap (λ xs. at (get_or xs k z)) c.take.ensures ∙ ap at (get-tabulate c.div_ceil.result _ k z (omega (arith, inside, whole)))
    ∙ c.packed_ring_powers.ensures k l below ∙ r.mul_comm o.one _ ∙ r.mul_one _
